use Rattle.std.proofs.Common.{arith}
use Rattle.ftp_replies.proofs.LineLemmas.{line_found, line_long, line_due, line_none}
use Rattle.ftp_replies.proofs.line.read_line.Goals as goal

pub returns-then-len-le-MAX_LINE_BYTES : goal.returns-then-len-le-MAX_LINE_BYTES
returns-then-len-le-MAX_LINE_BYTES c = line_found c.args.bytes.now c.in-Some.len c.in-Some.ensures.some c.if-len-le-MAX_LINE_BYTES.true

pub returns-else-len-le-MAX_LINE_BYTES : goal.returns-else-len-le-MAX_LINE_BYTES
returns-else-len-le-MAX_LINE_BYTES c = line_long c.args.bytes.now c.in-Some.len c.in-Some.ensures.some c.if-len-le-MAX_LINE_BYTES.false

pub returns-then-bytes-missing-le-MAX_LINE_BYTES : goal.returns-then-bytes-missing-le-MAX_LINE_BYTES
returns-then-bytes-missing-le-MAX_LINE_BYTES c =
    let lacks = c.missing.ensures in
    let fits = c.if-bytes-missing-le-MAX_LINE_BYTES.true in
    line_due c.args.bytes.now c.in-None.ensures.none (omega (arith, lacks, fits))

pub returns-else-bytes-missing-le-MAX_LINE_BYTES : goal.returns-else-bytes-missing-le-MAX_LINE_BYTES
returns-else-bytes-missing-le-MAX_LINE_BYTES c =
    let lacks = c.missing.ensures in
    let long = c.if-bytes-missing-le-MAX_LINE_BYTES.false in
    line_none c.args.bytes.now c.in-None.ensures.none (omega (arith, lacks, long))

use Rattle.std.proofs.Common.{arith}
use Rattle.http_heads.proofs.FieldLemmas.{response_short, spans_cover}
use Rattle.http_heads.proofs.HeadLemmas.{head_found, head_too_large}
use Rattle.http_heads.proofs.head.whole.Goals as goal

pub returns-then-parts-gt-MAX_HEAD_BYTES-clause-bad : goal.returns-then-parts-gt-MAX_HEAD_BYTES-clause-bad
returns-then-parts-gt-MAX_HEAD_BYTES-clause-bad c = λ _.
    let at = c.requires.found in
    head_too_large c.args.bytes.now c.args.spans.now c.args.parts.now at.0 c.requires.within at.1 (grind arith)

pub returns-in-Ok-clause-whole : goal.returns-in-Ok-clause-whole
returns-in-Ok-clause-whole c =
    let at = c.requires.found in
    rw c.in-Ok.ensures (head_found c.args.bytes.now c.args.spans.now c.args.parts.now at.0 c.requires.within at.1 (omega arith) (omega arith))

pub fields_at-requires-clause-fields : goal.fields_at-requires-clause-fields
fields_at-requires-clause-fields c =
    let at = c.requires.found in
    spans_cover c.args.bytes.now c.args.spans.now c.args.parts.now.headers at.0.fields at.1.reads.0.fields
    (response_short at.0 (omega (arith, at.1.len))) at.1.fields

use Rattle.std.proofs.Common.{subst, sym}
use Rattle.ftp_replies.proofs.ClosingLemmas.{whole_rest}
use Rattle.ftp_replies.proofs.LastLemmas.{AreLines, last_is, lines_behind, lines_end}
use Rattle.ftp_replies.proofs.lines.last_line.Goals as goal

pub returns-then-len-rest : goal.returns-then-len-rest
returns-then-len-rest c = λ code is.
    let are : AreLines is.last c.args.reply.now = record { front = is.front; lines = is.lines; is = is.is } in
    last_is is.last c.loop-len.rest.now c.in-Some.len
    (c.loop-len.invariant is.last are) c.in-Some.ensures.some c.if-len-rest.true

pub loop-len-preserved : goal.loop-len-preserved
loop-len-preserved c = λ last are.
    subst (AreLines last) (sym (whole_rest c.loop-len.rest.now c.in-Some.len))
    (lines_behind last c.loop-len.rest.now c.in-Some.len
    (c.loop-len.invariant last are) c.in-Some.ensures.some c.if-len-rest.false)

pub returns : goal.returns
returns c = λ code is.
    let are : AreLines is.last c.args.reply.now = record { front = is.front; lines = is.lines; is = is.is } in
    absurd (lines_end is.last c.loop-len.rest.now (c.loop-len.invariant is.last are) c.in_default.ensures.none)

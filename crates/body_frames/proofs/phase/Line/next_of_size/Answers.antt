use Rattle.std.proofs.Common.{arith}
use Rattle.std.proofs.lemmas.Result.{err_from_is_err_and}
use Rattle.body_frames.proofs.Places.{size_opens, size_ends, last_size_ends, size_stops}
use Rattle.body_frames.proofs.phase.Line.next_of_size.Goals as goal

pub returns-in_err-size : goal.returns-in_err-size
returns-in_err-size c =
    let p = err_from_is_err_and c.from_residual.result c.from_residual.ensures.1 in
    rw (p.1, p.2) (size_stops c.args.byte c.args.size c.in_err-size.field-0.0 c.in_err-size.ensures.fault c.in_err-size.ensures.goes_on)

pub returns-in-Open : goal.returns-in-Open
returns-in-Open c = size_opens c.args.byte c.args.size c.in-Open.size (rw c.in-Open.is at c.in_ok-size.ensures.goes_on)

pub returns-in-Ended-eq0 : goal.returns-in-Ended-eq0
returns-in-Ended-eq0 c = last_size_ends c.args.byte c.args.size c.new.result c.new.ensures (rw (c.in-Ended-eq0.is, c.in-Ended-eq0.field-0-test) at c.in_ok-size.ensures.goes_on)

pub returns-in-Ended : goal.returns-in-Ended
returns-in-Ended c = size_ends c.args.byte c.in-Ended.size c.args.size c.chunk.result c.chunk.ensures.goes_on c.chunk.ensures.means (omega (arith, c.in-Ended.size-test.1)) (rw c.in-Ended.is at c.in_ok-size.ensures.goes_on)

use Rattle.std.proofs.Common.{arith, ◌≡◌, ◌<◌}
use Rattle.std.proofs.lemmas.Bool.{both_ways}
use Rattle.body_frames.proofs.Places.{trailer_opens, trailer_ends, body_ends, trailer_stops}
use Rattle.body_frames.proofs.phase.Line.next_of_trailer.Goals as goal

pub returns-in-Open : goal.returns-in-Open
returns-in-Open c = trailer_opens c.args.byte c.args.line c.args.left c.in-Open.line (rw c.trailer_limit.ensures at c.in-Open.ensures)

pub returns-in-Ended : goal.returns-in-Ended
returns-in-Ended c = body_ends c.args.byte c.args.line c.args.left (c.is_empty.ensures.0 c.if-is_empty.true) c.in-Ended.ensures

pub returns-in-Ended-2 : goal.returns-in-Ended-2
returns-in-Ended-2 c =
    let some : 0 < c.args.line.len = omega (arith, λ (none : c.args.line.len ≡ 0). both_ways _ c.if-is_empty.false (c.is_empty.ensures.1 none)) in
    rw c.saturating_sub.ensures (trailer_ends c.args.byte c.args.line c.args.left c.new.result c.new.ensures some c.in-Ended-2.ensures)

pub returns-in-TooLong : goal.returns-in-TooLong
returns-in-TooLong c = trailer_stops c.args.byte c.args.line c.args.left (rw c.trailer_limit.ensures at c.in-TooLong.ensures)

use Rattle.std.proofs.Common.{◌≡◌}
use Rattle.turn_desk.proofs.turn_desk.TurnDesk.look_often.Given as goal

-- it has not the turn yet
abbrev pub invariant-loop : goal.invariant-loop
invariant-loop g l = (l.seat.table_id ≡ l.fn.seat.table_id) × (l.seat.me ≡ l.fn.seat.me)

use Rattle.std.proofs.Common.{◌≡◌, ◌≤◌, ◌-◌, length, List, vec_len, vec_capacity}
use Rattle.turn_desk.specs.declared.turn.Turn.{Turn}
use Rattle.turn_desk.specs.Rule.{IsDealing, AreDealt}
use Rattle.turn_desk.proofs.turn_desk.TurnDesk.deal_all.Given as goal

-- the passes that were dealt, and the numbers that are left
abbrev pub invariant-loop-k : goal.invariant-loop-k
invariant-loop-k g l =
    (l.seat.table_id ≡ l.self.desk_id)
    × ((base : List (Turn g.row.S-Op.Denot g.row.S-Answer.Denot g.row.S-Entry.Denot))
    × IsDealing l.self.given base 0 l.passes l.fn.seat.me
    × IsDealing l.self.given base l.k (l.passes - l.k) l.seat.me
    × AreDealt l.self base l.all.items)
    × (vec_len l.all ≡ l.k) × (length l.all.items ≡ l.k) × (l.passes ≤ vec_capacity l.all)

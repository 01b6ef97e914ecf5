use Rattle.std.proofs.Common.{◌≡◌, List, ◌++◌, map}
use Rattle.std.specs.List.{All}
use Rattle.turn_desk.specs.Passes.{PassView, IsPassOf}
use Rattle.turn_desk.specs.Rule.{IsGathering, share_of}
use Rattle.turn_desk.proofs.turn_desk.TurnDesk.gather.Given as goal

abbrev pub invariant-loop-pass : goal.invariant-loop-pass
invariant-loop-pass g l =
    (l.all.table_id ≡ l.self.desk_id)
    × All (IsPassOf l.self) l.passes.items
    × ((rest : List (PassView g.row.S-Start.Denot g.row.S-Op.Denot g.row.S-Answer.Denot g.row.S-Entry.Denot))
    × (l.passes.items ++ rest ≡ l.fn.passes.items) × IsGathering l.self.given (map share_of rest) l.all.me)

abbrev pub decreases-loop-pass : goal.decreases-loop-pass
decreases-loop-pass g l = goal.left-loop-pass g l

use Rattle.std.proofs.Common.{map, take}
use Rattle.file_choice.specs.Sweeps.{AreReaches}
use Rattle.file_choice.proofs.selection.reaches.Given as goal

abbrev pub invariant-loop-member : goal.invariant-loop-member
invariant-loop-member l = AreReaches (map (λ m. m.now) (take l.member-index l.member-items)) l.files l.reach.items

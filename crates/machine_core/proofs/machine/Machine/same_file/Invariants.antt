use Rattle.std.proofs.Common.{ℕ, ◌<◌}
use Rattle.machine_core.specs.Clashes.{HasFileAt}
use Rattle.machine_core.proofs.machine.Machine.same_file.Given as goal

abbrev pub invariant-loop-at : goal.invariant-loop-at
invariant-loop-at l = (i : ℕ) → i < l.at → HasFileAt l.self l.gid i → ⊥

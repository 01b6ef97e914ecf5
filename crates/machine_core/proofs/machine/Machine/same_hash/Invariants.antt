use Rattle.std.proofs.Common.{ℕ, ◌<◌}
use Rattle.machine_core.specs.Clashes.{HasHashAt}
use Rattle.machine_core.proofs.machine.Machine.same_hash.Given as goal

abbrev pub invariant-loop-at : goal.invariant-loop-at
invariant-loop-at l = (i : ℕ) → i < l.at → HasHashAt l.self l.gid l.hash i → ⊥

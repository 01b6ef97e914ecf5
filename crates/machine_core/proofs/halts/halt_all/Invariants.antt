use Rattle.machine_core.specs.MachineParts.{AreHaltedUpTo}
use Rattle.machine_core.proofs.halts.halt_all.Given as goal

abbrev pub invariant-loop-at : goal.invariant-loop-at
invariant-loop-at l = AreHaltedUpTo l.at l.initial.entries.items l.entries.items

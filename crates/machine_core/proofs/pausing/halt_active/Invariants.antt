use Rattle.machine_core.specs.Replays.{has_active}
use Rattle.machine_core.specs.CallParts.{AreHaltedTo}
use Rattle.machine_core.proofs.pausing.halt_active.Given as goal

abbrev pub invariant-loop-at : goal.invariant-loop-at
invariant-loop-at l = AreHaltedTo l.at (has_active l.fn.queue) l.initial.entries.items l.entries.items

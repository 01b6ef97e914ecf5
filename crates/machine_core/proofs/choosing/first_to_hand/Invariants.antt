use Rattle.std.proofs.Common.{◌<◌, ◌-◌, ℕ}
use Rattle.machine_core.specs.KeptOffers.{MayBeHanded}
use Rattle.machine_core.proofs.choosing.first_to_hand.Given as goal

abbrev pub invariant-loop-piece : goal.invariant-loop-piece
invariant-loop-piece l = (other : ℕ) → other < l.from → ¬ MayBeHanded l.handed.pieces l.listed l.entry other

abbrev pub decreases-loop-piece : goal.decreases-loop-piece
decreases-loop-piece l = 4294967296 - l.from

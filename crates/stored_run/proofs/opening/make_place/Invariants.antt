use Rattle.std.proofs.Common.{◌+◌, ◌-◌}
use Rattle.std.specs.Prelude.{vec_len}
use Rattle.stored_run.specs.Opening.{HoldsPlace}
use Rattle.stored_run.proofs.opening.make_place.Given as goal

abbrev pub invariant-loop-wants : goal.invariant-loop-wants
invariant-loop-wants l = HoldsPlace l.fn.wants.items l.wants.items l.place

abbrev pub decreases-loop-wants : goal.decreases-loop-wants
decreases-loop-wants l = l.place + 1 - vec_len l.wants

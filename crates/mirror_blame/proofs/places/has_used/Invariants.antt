use Rattle.mirror_blame.proofs.Uses.{IsUsed}
use Rattle.mirror_blame.proofs.places.has_used.Given as goal

abbrev pub invariant-loop-place : goal.invariant-loop-place
invariant-loop-place l = IsUsed l.places l.place-index l.mirror l.tries l.piece l.used

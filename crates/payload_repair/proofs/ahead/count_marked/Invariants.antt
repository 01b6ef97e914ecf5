use Rattle.payload_repair.specs.Ahead.{AreMarked}
use Rattle.payload_repair.proofs.ahead.count_marked.Given as goal

abbrev pub invariant-loop-place : goal.invariant-loop-place
invariant-loop-place l = AreMarked l.marks l.place

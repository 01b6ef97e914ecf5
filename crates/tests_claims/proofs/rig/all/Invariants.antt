use Rattle.std.proofs.Common.{◌≡◌, length}
use Rattle.tests_claims.proofs.rig.all.Given as goal

abbrev pub invariant-loop-place : goal.invariant-loop-place
invariant-loop-place l = length l.row ≡ l.len

use Rattle.std.proofs.Common.{◌≡◌, take}
use Rattle.payload_repair.proofs.names.front.Given as goal

abbrev pub invariant-loop-place : goal.invariant-loop-place
invariant-loop-place l = l.parts ≡ take l.place l.path

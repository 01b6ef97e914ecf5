use Rattle.std.proofs.Common.{◌≡◌}
use Rattle.load_setup.specs.Payload.{pieces_in}
use Rattle.load_setup.proofs.counting.group_in.Given as goal

abbrev pub invariant-loop-place : goal.invariant-loop-place
invariant-loop-place l = l.pieces.items ≡ pieces_in l.payload l.first l.place

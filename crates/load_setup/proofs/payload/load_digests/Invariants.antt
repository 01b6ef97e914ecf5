use Rattle.std.proofs.Common.{◌≡◌}
use Rattle.load_setup.specs.Payload.{piece_digests}
use Rattle.load_setup.proofs.payload.load_digests.Given as goal

abbrev pub invariant-loop-piece : goal.invariant-loop-piece
invariant-loop-piece l = l.digests ≡ piece_digests l.n l.piece

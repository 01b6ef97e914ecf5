use Rattle.std.proofs.Common.{◌≡◌, ◌++◌, ◌/◌, length}
use Rattle.meta_v2.specs.Rules.{first_hashes, hashes_in}
use Rattle.meta_v2.proofs.layers.hashes_in.Given as goal

abbrev pub invariant-loop-hash : goal.invariant-loop-hash
invariant-loop-hash l = l.hashes ++ first_hashes (length l.rest / 32) l.rest ≡ hashes_in l.text

abbrev pub decreases-loop-hash : goal.decreases-loop-hash
decreases-loop-hash l = length l.rest

use Rattle.std.proofs.Common.{◌≡◌, ℕ}
use Rattle.std.specs.Prelude.{map}
use Rattle.std.specs.List.{range_with_len}
use Rattle.sha2.specs.Sha256.{sha256}
use Rattle.merkle_trees.specs.Leaves.{block_at}
use Rattle.merkle_trees.proofs.blocks.leaves.Given as goal

abbrev pub invariant-loop-place : goal.invariant-loop-place
invariant-loop-place l
    = l.leaves.items ≡ map (λ (place : ℕ). sha256 (block_at l.bytes place)) (range_with_len 0 l.place)

use Rattle.std.proofs.Common.{◌≡◌}
use Rattle.std.specs.List.{filter, range_with_len}
use Rattle.merkle_trees.specs.Places.{differs_at}
use Rattle.merkle_trees.proofs.places.differing_in.Given as goal

abbrev pub invariant-loop-place : goal.invariant-loop-place
invariant-loop-place l = l.places.items ≡ filter (differs_at l.wrong l.right) (range_with_len 0 l.place)

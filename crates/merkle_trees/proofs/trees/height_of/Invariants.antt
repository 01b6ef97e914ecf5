use Rattle.std.proofs.Common.{ℕ, ◌-◌, ◌^◌, ◌<◌, ◌≤◌}
use Rattle.merkle_trees.specs.declared.trees.TheConstants.{MAX_HEIGHT}
use Rattle.merkle_trees.proofs.trees.height_of.Given as goal

abbrev pub invariant-loop-height : goal.invariant-loop-height
invariant-loop-height l = record {
  low : l.height ≤ MAX_HEIGHT;
  above : (lower : ℕ) → lower < l.height → 2 ^ lower < l.count;
}

abbrev pub decreases-loop-height : goal.decreases-loop-height
decreases-loop-height l = MAX_HEIGHT - l.height

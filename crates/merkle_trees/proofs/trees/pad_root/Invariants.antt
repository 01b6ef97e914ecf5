use Rattle.std.proofs.Common.{◌≡◌, []}
use Rattle.merkle_trees.specs.Trees.{root_over}
use Rattle.merkle_trees.proofs.trees.pad_root.Given as goal

abbrev pub invariant-loop-level : goal.invariant-loop-level
invariant-loop-level l = l.root ≡ root_over l.pad l._level []

use Rattle.std.proofs.Common.{◌≡◌, map, Some}
use Rattle.meta_v2.specs.Trees.{with_both, files_of_tree}
use Rattle.meta_v2.specs.Walks.{seen, files_left, sizes_of}
use Rattle.meta_v2.proofs.tree.files_of_tree.Given as goal

abbrev pub invariant-loop-branch : goal.invariant-loop-branch
invariant-loop-branch l =
    with_both (Some (map seen l.files.items)) (files_left l.rest.items) ≡ files_of_tree l.fn.tree

abbrev pub decreases-loop-branch : goal.decreases-loop-branch
decreases-loop-branch l = sizes_of l.rest.items

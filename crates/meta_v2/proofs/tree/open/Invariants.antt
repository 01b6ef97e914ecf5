use Rattle.std.proofs.Common.{◌≡◌, ◌+◌, ◌<◌, map, length}
use Rattle.meta_v2.specs.Trees.{with_both}
use Rattle.meta_v2.specs.Walks.{folder_files, seen, files_left, files_of_all, size_of, sizes_of}
use Rattle.meta_v2.proofs.Walking.{child, member_sizes}
use Rattle.meta_v2.proofs.tree.open.Given as goal

abbrev pub invariant-loop-key : goal.invariant-loop-key
invariant-loop-key l =
    let left = map (λ m. (m.0.now, m.1)) l.members.items in
    record {
      leaves : with_both (files_of_all (map (child (seen l.folder).path) left)) (files_left l.rest.items)
          ≡ with_both (folder_files l.folder) (files_left l.fn.rest.items);
      less : member_sizes left + sizes_of l.rest.items < size_of l.folder + sizes_of l.fn.rest.items;
    }

abbrev pub decreases-loop-key : goal.decreases-loop-key
decreases-loop-key l = length l.members.items

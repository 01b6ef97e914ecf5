use Rattle.std.proofs.Common.{◌≡◌, map, take}
use Rattle.meta_v2.proofs.tree.in_folder.Given as goal

abbrev pub invariant-loop-part : goal.invariant-loop-part
invariant-loop-part l =
    map (λ part. part.now) l.parts.items ≡ map (λ part. part.now) (take l.part-index l.path)

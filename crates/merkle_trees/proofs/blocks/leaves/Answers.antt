use Rattle.merkle_trees.proofs.BlockLeaves.{leaves-pushed}
use Rattle.merkle_trees.proofs.blocks.leaves.Goals as goal

pub loop-place-preserved : goal.loop-place-preserved
loop-place-preserved c =
    leaves-pushed c.args.bytes.now c.loop-place.place _ _ _ c.loop-place.invariant c.in_ok-push.ensures.items
    c.leaf.ensures

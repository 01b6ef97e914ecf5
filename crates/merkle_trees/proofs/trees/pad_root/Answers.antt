use Rattle.std.proofs.Common.{sym}
use Rattle.merkle_trees.proofs.Padding.{root_over-pad, root_over-pads}
use Rattle.merkle_trees.proofs.trees.pad_root.Goals as goal

pub loop-level-init : goal.loop-level-init
loop-level-init c = sym (root_over-pad c.args.pad.now)

pub loop-level-preserved : goal.loop-level-preserved
loop-level-preserved c =
    let pads = root_over-pads c.args.pad.now c.loop-level._level in
    let here = c.loop-level.invariant in
    let made = c.parent-root.ensures in cc

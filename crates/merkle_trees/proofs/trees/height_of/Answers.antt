use Rattle.std.proofs.Common.{◌≤◌, ◌^◌, sym, arith}
use Rattle.merkle_trees.proofs.Heights.{height_from-least}
use Rattle.merkle_trees.proofs.trees.height_of.Goals as goal

pub returns-clause-value : goal.returns-clause-value
returns-clause-value c =
    let fit : c.args.count ≤ 2 ^ c.loop-height.height = omega arith in
    sym (height_from-least 31 0 c.args.count c.loop-height.height (omega arith)
    (omega arith) fit c.loop-height.invariant.above)

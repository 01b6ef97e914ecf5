use Rattle.merkle_trees.proofs.BlockLeaves.{other-blocks}
use Rattle.merkle_trees.proofs.Differences.{differing-is, differing-has}
use Rattle.merkle_trees.proofs.laws.other_leaves_are_of_other_blocks.Goals as goal

pub returns-clause-places : goal.returns-clause-places
returns-clause-places c = λ wrong right place long. (differing-is wrong right place, differing-has wrong right place)

pub returns-clause-blocks : goal.returns-clause-blocks
returns-clause-blocks c = other-blocks

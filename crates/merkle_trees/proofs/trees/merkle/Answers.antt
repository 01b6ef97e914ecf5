use Rattle.merkle_trees.proofs.Heights.{power-bound}
use Rattle.merkle_trees.proofs.trees.merkle.Goals as goal

pub height_of-requires : goal.height_of-requires
height_of-requires c = power-bound c.args.width c.requires.power c.ranges.width.fits

use Rattle.merkle_trees.proofs.LayerRoots.{layer-roots}
use Rattle.merkle_trees.proofs.laws.layers_have_file_roots.Goals as goal

pub returns : goal.returns
returns c = layer-roots

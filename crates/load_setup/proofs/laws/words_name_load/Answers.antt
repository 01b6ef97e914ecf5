use Rattle.load_setup.proofs.LoadLine.{words_name}
use Rattle.load_setup.proofs.laws.words_name_load.Goals as goal

pub returns : goal.returns
returns c = words_name c.names_are_apart.ensures

use Rattle.memory_serving_laws.proofs.Served.{good_serve}
use Rattle.memory_serving_laws.proofs.laws.good_mirrors_serve.Goals as goal

pub returns : goal.returns
returns c = good_serve c.served_comes.ensures.comes c.clean_mirrors_stay.ensures.stay

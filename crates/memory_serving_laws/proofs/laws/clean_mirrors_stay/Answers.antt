use Rattle.memory_serving_laws.proofs.Counting.{clean_use_none, good_stay}
use Rattle.memory_serving_laws.proofs.laws.clean_mirrors_stay.Goals as goal

pub returns-clause-none_used : goal.returns-clause-none_used
returns-clause-none_used c old before link among is clean = clean_use_none among old before link is clean

pub returns-clause-stay : goal.returns-clause-stay
returns-clause-stay c = good_stay

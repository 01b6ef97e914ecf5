use Rattle.memory_serving_laws.proofs.Alike.{answers_keep_mirrors, leads_alike, leads_among_alike, leads_to_size_alike}
use Rattle.memory_serving_laws.proofs.laws.mirrors_hold_alike.Goals as goal

pub returns : goal.returns
returns c = record { kept = answers_keep_mirrors; leads = leads_alike; sizes = leads_to_size_alike; among = leads_among_alike }

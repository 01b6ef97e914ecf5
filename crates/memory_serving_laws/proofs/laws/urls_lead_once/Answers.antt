use Rattle.memory_serving_laws.proofs.Leading.{leads_once, visible_lead}
use Rattle.memory_serving_laws.proofs.laws.urls_lead_once.Goals as goal

pub returns-clause-once : goal.returns-clause-once
returns-clause-once c = leads_once c.final_heads_are_one_and_stay.ensures.one

pub returns-clause-visible : goal.returns-clause-visible
returns-clause-visible c = visible_lead c.final_heads_are_one_and_stay.ensures.one c.replies_are_read.ensures.moved

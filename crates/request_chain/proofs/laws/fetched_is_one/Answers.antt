use Rattle.request_chain.proofs.Once.{fetched_once}
use Rattle.request_chain.proofs.laws.fetched_is_one.Goals as goal

pub returns : goal.returns
returns c = fetched_once c.streams_have_one_answer.ensures.once

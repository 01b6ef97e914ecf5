use Rattle.part_fetches.proofs.Once.{fetched_once}
use Rattle.part_fetches.proofs.laws.fetched_is_one.Goals as goal

pub returns : goal.returns
returns c = fetched_once c.fetched_is_one.ensures c.dialogues_are_one.ensures.fetched

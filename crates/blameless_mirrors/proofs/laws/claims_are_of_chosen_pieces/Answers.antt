use Rattle.blameless_mirrors.proofs.Wanting.{claims_chosen}
use Rattle.blameless_mirrors.proofs.laws.claims_are_of_chosen_pieces.Goals as goal

pub returns : goal.returns
returns c = claims_chosen c.runs_follow.ensures c.accounts_match_runs.ensures.plans

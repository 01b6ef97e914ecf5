use Rattle.rate_tokens.proofs.Levels.{levels_follow}
use Rattle.rate_tokens.proofs.laws.levels_follow_calls.Goals as goal

pub returns : goal.returns
returns c = levels_follow

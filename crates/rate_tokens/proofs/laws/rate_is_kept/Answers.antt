use Rattle.rate_tokens.proofs.Stretches.{rate_is_kept_lem}
use Rattle.rate_tokens.proofs.laws.rate_is_kept.Goals as goal

pub returns : goal.returns
returns c = rate_is_kept_lem

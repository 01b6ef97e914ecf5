use Rattle.rate_tokens.proofs.Waits.{wait_is_enough_lem, wait_is_least_lem, wait_takes_nothing_lem}
use Rattle.rate_tokens.proofs.laws.waits_are_exact.Goals as goal

pub returns-clause-enough : goal.returns-clause-enough
returns-clause-enough c = wait_is_enough_lem

pub returns-clause-least : goal.returns-clause-least
returns-clause-least c = wait_is_least_lem

pub returns-clause-nothing : goal.returns-clause-nothing
returns-clause-nothing c = wait_takes_nothing_lem

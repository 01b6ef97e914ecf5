use Rattle.mirror_blame.proofs.Counted.{counted_are_tries, counted_give_tries, counted_count}
use Rattle.mirror_blame.proofs.laws.counting_is_stable.Goals as goal

pub returns-clause-tries : goal.returns-clause-tries
returns-clause-tries c = counted_are_tries

pub returns-clause-same : goal.returns-clause-same
returns-clause-same c = counted_give_tries

pub returns-clause-again : goal.returns-clause-again
returns-clause-again c = counted_count

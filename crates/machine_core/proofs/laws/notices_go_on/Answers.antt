use Rattle.machine_core.proofs.NoticeLaws.{goes_on_due, none_at_end, upto_within}
use Rattle.machine_core.proofs.laws.notices_go_on.Goals as goal

pub returns-clause-on : goal.returns-clause-on
returns-clause-on c = goes_on_due

pub returns-clause-upto : goal.returns-clause-upto
returns-clause-upto c = upto_within

pub returns-clause-end : goal.returns-clause-end
returns-clause-end c = none_at_end

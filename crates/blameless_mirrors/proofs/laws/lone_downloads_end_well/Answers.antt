use Rattle.blameless_mirrors.proofs.LoneEnds.{lone_ends}
use Rattle.blameless_mirrors.proofs.OneWant.{lone_alone}
use Rattle.blameless_mirrors.proofs.laws.lone_downloads_end_well.Goals as goal

pub returns-clause-ends : goal.returns-clause-ends
returns-clause-ends c = lone_ends c.runs_follow.ensures c.known_downloads_are_idle.ensures

pub returns-clause-alone : goal.returns-clause-alone
returns-clause-alone c = lone_alone

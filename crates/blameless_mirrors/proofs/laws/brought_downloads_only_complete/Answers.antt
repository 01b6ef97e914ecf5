use Rattle.blameless_mirrors.proofs.LoneLaws.{brought_complete, fresh_unrefused}
use Rattle.blameless_mirrors.proofs.laws.brought_downloads_only_complete.Goals as goal

pub returns-clause-refused : goal.returns-clause-refused
returns-clause-refused g c = fresh_unrefused c.runs_follow.ensures g.D.Disk.state

pub returns-clause-complete : goal.returns-clause-complete
returns-clause-complete g c =
    brought_complete c.runs_follow.ensures g.D.Disk.state c.accounts_match_runs.ensures.plans
    c.plan_laws.ensures.follow c.plan_laws.ensures.numbered
    c.known_downloads_are_idle.ensures

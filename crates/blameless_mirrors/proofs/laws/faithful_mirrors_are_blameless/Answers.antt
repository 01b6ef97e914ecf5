use Rattle.blameless_mirrors.proofs.Blame.{never_end_dead, not_theirs, of_links, stay_eligible}
use Rattle.blameless_mirrors.proofs.laws.faithful_mirrors_are_blameless.Goals as goal

pub returns-clause-findings : goal.returns-clause-findings
returns-clause-findings g c =
    not_theirs c.runs_follow.ensures c.accounts_match_runs.ensures.plans
    c.plan_laws.ensures.follow c.plan_laws.ensures.numbered g.D.Disk.state

pub returns-clause-marks : goal.returns-clause-marks
returns-clause-marks g c =
    of_links c.runs_follow.ensures c.accounts_match_runs.ensures.plans
    c.plan_laws.ensures.follow c.plan_laws.ensures.numbered g.D.Disk.state

pub returns-clause-eligible : goal.returns-clause-eligible
returns-clause-eligible g c =
    stay_eligible c.runs_follow.ensures c.accounts_match_runs.ensures.plans
    c.plan_laws.ensures.follow c.plan_laws.ensures.numbered g.D.Disk.state

pub returns-clause-dead : goal.returns-clause-dead
returns-clause-dead g c =
    never_end_dead c.runs_follow.ensures c.accounts_match_runs.ensures.plans
    c.plan_laws.ensures.follow c.plan_laws.ensures.numbered g.D.Disk.state

use Rattle.mark_costs.proofs.Affording.{afforded, marks_paid}
use Rattle.mark_costs.proofs.laws.marks_are_paid.Goals as goal

pub returns-clause-paid : goal.returns-clause-paid
returns-clause-paid g c =
    marks_paid c.runs_follow.ensures c.accounts_match_runs.ensures.plans
    c.plan_laws.ensures.follow c.plan_laws.ensures.numbered g.D.Disk.state

pub returns-clause-afforded : goal.returns-clause-afforded
returns-clause-afforded g c =
    afforded c.runs_follow.ensures c.accounts_match_runs.ensures.plans
    c.plan_laws.ensures.follow c.plan_laws.ensures.numbered g.D.Disk.state

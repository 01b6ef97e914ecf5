use Rattle.blameless_mirrors.proofs.Blame.{delivered_read}
use Rattle.blameless_mirrors.proofs.laws.delivered_blocks_are_read.Goals as goal

pub returns : goal.returns
returns g c =
    delivered_read c.runs_follow.ensures c.accounts_match_runs.ensures.plans
    c.plan_laws.ensures.follow c.plan_laws.ensures.numbered g.D.Disk.state

use Rattle.blameless_mirrors.proofs.UriBlocks.{unlisted_read}
use Rattle.blameless_mirrors.proofs.laws.unlisted_blocks_are_read.Goals as goal

pub returns : goal.returns
returns g c =
    unlisted_read c.runs_follow.ensures c.accounts_match_runs.ensures.plans c.plan_laws.ensures.follow g.D.Disk.state

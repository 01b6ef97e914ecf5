use Rattle.blameless_mirrors.proofs.UriFiles.{unlisted_whole}
use Rattle.blameless_mirrors.proofs.laws.unlisted_complete_downloads_are_whole.Goals as goal

pub returns : goal.returns
returns g c =
    unlisted_whole c.runs_follow.ensures c.accounts_match_runs.ensures.plans c.plan_laws.ensures.follow
    c.plan_laws.ensures.numbered g.D.Disk.state

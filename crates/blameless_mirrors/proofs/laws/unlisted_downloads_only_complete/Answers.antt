use Rattle.blameless_mirrors.proofs.LoneUris.{unlisted_complete}
use Rattle.blameless_mirrors.proofs.laws.unlisted_downloads_only_complete.Goals as goal

pub returns : goal.returns
returns g c = unlisted_complete c.runs_follow.ensures g.D.Disk.state

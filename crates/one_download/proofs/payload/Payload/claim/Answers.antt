use Rattle.std.proofs.Common.{ap, ◌∙◌}
use Rattle.one_download.specs.DownloadViews.{standing_under}
use Rattle.one_download.specs.PayloadViews.{PayloadView}
use Rattle.one_download.proofs.payload.Payload.claim.Goals as goal

pub returns : goal.returns
returns c = c.get.ensures ∙ ap (λ (v : PayloadView). standing_under v.account c.args.id) c.self.view_is

use Rattle.std.proofs.Common.{ap, ◌∙◌}
use Rattle.std.specs.Option.{option_and_then}
use Rattle.dl_history.specs.Accounts.{first_still_open}
use Rattle.one_download.specs.DownloadViews.{DownloadView, standing_under}
use Rattle.one_download.proofs.Unopened.{probe_closed}
use Rattle.one_download.proofs.download.OneDownload.first_open.Goals as goal

pub returns-in-None : goal.returns-in-None
returns-in-None c =
    let d = c.self.inside in
    probe_closed d.marks.mirrors c.args.id d.payload d.probe d.before c.self.invariant c.in-None.is
    ∙ ap (λ (v : DownloadView). option_and_then (first_still_open v.account) (standing_under v.account c.args.id))
    c.self.view_is

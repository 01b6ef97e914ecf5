use Rattle.std.proofs.Common.{Option, sym, subst}
use Rattle.std.specs.Prelude.{IfNone}
use Rattle.one_download.specs.DownloadParts.{account_in, wanted_in}
use Rattle.one_download.specs.DownloadViews.{DownloadView}
use Rattle.one_download.specs.Grants.{IsBlockChoice, situation_for, situation_with}
use Rattle.one_download.specs.PayloadViews.{PayloadView}
use Rattle.one_download.specs.declared.choices.Choice.{Choice}
use Rattle.one_download.proofs.download.OneDownload.choice.Goals as goal

pub returns-in-Some-clause-none : goal.returns-in-Some-clause-none
returns-in-Some-clause-none c =
    let d = c.self.inside in
    subst (λ (v : DownloadView). IfNone c.choice.result ((choice : Choice)
    → ¬ IsBlockChoice (situation_with v c.args.split c.args.hosts.now) c.args.now.0 choice))
    c.self.view_is
    (subst (λ (o : Option PayloadView). IfNone c.choice.result ((choice : Choice)
    → ¬ IsBlockChoice (situation_for (account_in o d.probe d.before) (wanted_in o) d.marks.max_tries d.marks.marks
    c.args.split c.args.hosts.now) c.args.now.0 choice))
    (sym c.in-Some.is) c.choice.ensures.none)

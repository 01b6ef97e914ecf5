use Rattle.std.proofs.Common.{◌≡◌, true, [], Option, subst, sym}
use Rattle.piece_table.specs.NewRuns.{AreRunsOf}
use Rattle.one_download.specs.DownloadParts.{account_in}
use Rattle.one_download.specs.DownloadViews.{DownloadView, is_open_by}
use Rattle.one_download.specs.PayloadViews.{PayloadView}
use Rattle.one_download.proofs.Unopened.{probe_shut}
use Rattle.segment_claim.proofs.OpenRuns.{no_runs}
use Rattle.one_download.proofs.download.OneDownload.open_runs.Goals as goal

pub returns-in-None : goal.returns-in-None
returns-in-None c =
    let d = c.self.inside in
    subst (AreRunsOf (λ block. is_open_by c.args.self.now.account c.args.id block ≡ true) c.args.run) (sym c.new.ensures)
    (subst (λ (v : DownloadView). AreRunsOf (λ block. is_open_by v.account c.args.id block ≡ true) c.args.run []) c.self.view_is
    (no_runs (λ block. is_open_by (account_in d.payload d.probe d.before) c.args.id block ≡ true)
    (λ block. probe_shut d.marks.mirrors c.args.id block d.payload d.probe d.before c.self.invariant c.in-None.is) c.args.run))

pub returns-in-Some : goal.returns-in-Some
returns-in-Some c =
    let d = c.self.inside in
    subst (λ (v : DownloadView). AreRunsOf (λ block. is_open_by v.account c.args.id block ≡ true) c.args.run c.open_runs.result)
    c.self.view_is
    (subst
    (λ (o : Option PayloadView). AreRunsOf (λ block. is_open_by (account_in o d.probe d.before) c.args.id block ≡ true)
    c.args.run c.open_runs.result)
    (sym c.in-Some.is) c.open_runs.ensures)

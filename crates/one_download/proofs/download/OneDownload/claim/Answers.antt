use Rattle.std.proofs.Common.{◌<◌, Option, sym, ap, subst, ◌∙◌}
use Rattle.std.specs.Prelude.{IfSome}
use Rattle.dl_kinds.specs.declared.claims.Claim.{Claim}
use Rattle.one_download.specs.DownloadParts.{HoldsIn, IsOfMirrors, account_in}
use Rattle.one_download.specs.DownloadViews.{DownloadView, standing_under}
use Rattle.one_download.specs.PayloadViews.{PayloadView}
use Rattle.one_download.proofs.Unopened.{claims_known, probe_known}
use Rattle.one_download.proofs.download.OneDownload.claim.Goals as goal

abbrev KnownBy : Option Claim → DownloadView → Type 0
KnownBy o v = IfSome o (λ claim. claim.mirror < v.mirrors)

pub returns-in-Some-clause-mirror : goal.returns-in-Some-clause-mirror
returns-in-Some-clause-mirror c =
    let d = c.self.inside in
    let of : IsOfMirrors d.marks.mirrors c.in-Some.payload.account =
    subst (λ (o : Option PayloadView). HoldsIn d.marks.mirrors o d.probe) c.in-Some.is c.self.invariant in
    subst (KnownBy c.claim.result) c.self.view_is
    (subst (λ (o : Option Claim). IfSome o (λ claim. claim.mirror < d.marks.mirrors)) (sym c.claim.ensures)
    (claims_known d.marks.mirrors c.args.id c.in-Some.payload.account of))

pub returns-in-None-clause-claim : goal.returns-in-None-clause-claim
returns-in-None-clause-claim c =
    let d = c.self.inside in
    c.under.ensures
    ∙ ap (λ (o : Option PayloadView). standing_under (account_in o d.probe d.before) c.args.id) (sym c.in-None.is)
    ∙ ap (λ (v : DownloadView). standing_under v.account c.args.id) c.self.view_is

pub returns-in-None-clause-mirror : goal.returns-in-None-clause-mirror
returns-in-None-clause-mirror c =
    let d = c.self.inside in
    subst (KnownBy c.under.result) c.self.view_is
    (subst (λ (o : Option Claim). IfSome o (λ claim. claim.mirror < d.marks.mirrors))
    (sym (c.under.ensures
    ∙ ap (λ (o : Option PayloadView). standing_under (account_in o d.probe d.before) c.args.id) (sym c.in-None.is)))
    (probe_known d.marks.mirrors c.args.id d.payload d.probe d.before c.self.invariant c.in-None.is))

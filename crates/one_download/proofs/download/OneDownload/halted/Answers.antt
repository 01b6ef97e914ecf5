use Rattle.std.proofs.Common.{Option, sym, subst}
use Rattle.one_download.specs.DownloadParts.{HoldsIn, IsOfMirrors}
use Rattle.one_download.specs.PayloadViews.{PayloadView}
use Rattle.one_download.proofs.Mirrors.{of_halt}
use Rattle.one_download.proofs.download.OneDownload.halted.Goals as goal

pub invariant_of-self : goal.invariant_of-self
invariant_of-self c =
    let d = c.self.inside in
    let of : IsOfMirrors d.marks.mirrors c.in-Some.payload.account =
    subst (λ (o : Option PayloadView). HoldsIn d.marks.mirrors o d.probe) c.in-Some.is c.self.invariant in
    subst (IsOfMirrors d.marks.mirrors) (sym c.halted.ensures.account)
    (of_halt d.marks.mirrors c.in-Some.payload.account c.args.ends of)

use Rattle.std.proofs.Common.{◌<◌, Option, sym, subst}
use Rattle.one_download.specs.DownloadParts.{HoldsIn, IsOfMirrors}
use Rattle.one_download.specs.DownloadViews.{DownloadView}
use Rattle.one_download.specs.PayloadViews.{PayloadView}
use Rattle.one_download.proofs.Mirrors.{of_landing}
use Rattle.one_download.proofs.download.OneDownload.landed.Goals.{in-Some, in_default}
use Rattle.one_download.proofs.download.OneDownload.landed.Goals as goal

pub invariant_of-self : goal.invariant_of-self
invariant_of-self c =
    let d = c.self.inside in
    let known : c.args.mirror < d.marks.mirrors =
    subst (λ (v : DownloadView). c.args.mirror < v.mirrors) (sym c.self.view_is) c.requires.mirror in
    elim c.match-self.branch [
      | in-Some w ↦
          let of : IsOfMirrors d.marks.mirrors w.in-Some.payload.account =
          subst (λ (o : Option PayloadView). HoldsIn d.marks.mirrors o d.probe) w.in-Some.is c.self.invariant in
          rw w.self-inside-is (subst (IsOfMirrors d.marks.mirrors) (sym w.landed.ensures.account)
          (of_landing d.marks.mirrors w.in-Some.payload.account c.args.mirror c.args.run of known))
      | in_default w ↦ rw w.self-inside-is c.self.invariant
    ]

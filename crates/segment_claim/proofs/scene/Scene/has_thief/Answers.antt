use Rattle.std.proofs.Common.{ℕ, subst}
use Rattle.dl_kinds.specs.declared.runs.Run.{Run}
use Rattle.std.specs.Prelude.{◌↔◌, IsTrue}
use Rattle.segment_claim.specs.Free.{IsMirrorFor}
use Rattle.segment_claim.proofs.OwnRuns.{half_is, some_is}
use Rattle.segment_claim.proofs.scene.Scene.has_thief.Goals as goal

pub returns : goal.returns
returns c =
    let half : Run = c.later_half.result in
    subst (λ (r : Run). IsTrue c.is_some.result ↔ (mirror : ℕ) × IsMirrorFor c.args.self.now r mirror)
    (half_is c.args.own half c.later_half.ensures.count c.later_half.ensures.end)
    (some_is c.mirror_for.result c.is_some.result
    (IsMirrorFor c.args.self.now half) c.is_some.ensures c.mirror_for.ensures.chosen c.mirror_for.ensures.none)

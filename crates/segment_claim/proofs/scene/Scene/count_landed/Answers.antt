use Rattle.std.proofs.Common.{◌≡◌, subst, arith, false, true, Bool, Some}
use Rattle.std.specs.Prelude.{slice_get}
use Rattle.segment_claim.specs.Situation.{Situation}
use Rattle.segment_claim.proofs.Counting.{count-part_more}
use Rattle.segment_claim.proofs.scene.Scene.count_landed.Goals as goal
use Rattle.segment_claim.proofs.scene.Scene.count_landed.Goals.{then-get, else-get}

pub loop-block-preserved : goal.loop-block-preserved
loop-block-preserved c =
    let landed = c.args.self.now.landed in
    let block = c.loop-block.block in
    let first = c.args.claim.now.run.first in
    let read = λ (b : Bool) (e : slice_get c.self.inside.landed.now block ≡ Some b). subst
    (λ (s : Situation). slice_get s.landed block ≡ Some b) c.self.view_is e in
    elim c.if-get.branch [
      | then-get w ↦
          let more = count-part_more landed first block true (omega arith) (read true w.if-get.ensures) in
          record { counted = omega (arith, more, w.count-is); bound = omega (arith, w.count-is) }
      | else-get w ↦
          let more = count-part_more landed first block false (omega arith) (read false w.if-get.ensures) in
          record { counted = omega (arith, more, w.count-is); bound = omega (arith, w.count-is) }
    ]

use Rattle.std.proofs.Common.{ℕ, ◌<◌}
use Rattle.std.specs.Prelude.{◌↔◌}
use Rattle.mirror_blame.specs.Marks.{IsEligible}
use Rattle.segment_claim.proofs.scene.Scene.are_alike.Given as goal

abbrev pub invariant-loop-mirror : goal.invariant-loop-mirror
invariant-loop-mirror l =
    (mirror : ℕ) → mirror < l.mirror
    → IsEligible l.self.max_tries l.self.marks mirror l.piece ↔ IsEligible l.self.max_tries l.self.marks mirror l.other

use Rattle.std.specs.Prelude.{◌⊎◌}
use Rattle.segment_claim.specs.Free.{IsLooseStretch}
use Rattle.segment_claim.specs.Search.{IsBestOf}
use Rattle.segment_claim.proofs.BestStretch.{IsSoleBelow}
use Rattle.segment_claim.proofs.scene.Scene.best_stretch.Given as goal

abbrev pub invariant-loop-piece : goal.invariant-loop-piece
invariant-loop-piece l = IsBestOf l.self (λ run. IsLooseStretch l.self run ⊎ IsSoleBelow l.self l.piece run) l.found

use Rattle.std.proofs.Common.{◌≤◌, ◌<◌, ◌-◌}
use Rattle.dl_kinds.specs.Plan.{blocks_of}
use Rattle.segment_claim.specs.Free.{IsLooseStretch}
use Rattle.segment_claim.specs.Search.{IsBestOf}
use Rattle.segment_claim.specs.Spans.{IsCover}
use Rattle.segment_claim.proofs.LooseRuns.{IsCut}
use Rattle.segment_claim.proofs.scene.Scene.best_loose.Given as goal

abbrev pub invariant-loop-run : goal.invariant-loop-run
invariant-loop-run l = record {
  within : l.at ≤ blocks_of l.self.total l.self.piece_len;
  cover : IsCover l.self l.cover;
  cut : IsCut l.self l.at;
  best : IsBestOf l.self (λ run. IsLooseStretch l.self run × (run.first < l.at)) l.found;
}

abbrev pub decreases-loop-run : goal.decreases-loop-run
decreases-loop-run l = blocks_of l.self.total l.self.piece_len - l.at

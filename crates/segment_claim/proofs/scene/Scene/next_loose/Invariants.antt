use Rattle.std.proofs.Common.{◌≡◌, ◌≤◌, ◌-◌}
use Rattle.dl_kinds.specs.Plan.{blocks_of}
use Rattle.segment_claim.specs.Spans.{IsCover, NoneLoose}
use Rattle.segment_claim.proofs.scene.Scene.next_loose.Given as goal

abbrev pub invariant-loop-at : goal.invariant-loop-at
invariant-loop-at l = record {
  blocks : l.blocks ≡ blocks_of l.self.total l.self.piece_len;
  cover : IsCover l.self l.cover;
  later : l.from ≤ l.at;
  within : l.at ≤ l.blocks;
  none : NoneLoose l.self l.from l.at;
}

abbrev pub decreases-loop-at : goal.decreases-loop-at
decreases-loop-at l = l.blocks - l.at

use Rattle.std.proofs.Common.{◌≡◌, ◌≤◌, ◌-◌, ◌<◌, ℕ, true}
use Rattle.dl_kinds.specs.Plan.{blocks_of}
use Rattle.segment_claim.specs.Free.{AreAlikeAt, is_loose, piece_at}
use Rattle.segment_claim.specs.Spans.{IsCover}
use Rattle.segment_claim.proofs.scene.Scene.loose_end.Given as goal

abbrev pub invariant-loop-at : goal.invariant-loop-at
invariant-loop-at l = record {
  blocks : l.blocks ≡ blocks_of l.self.total l.self.piece_len;
  piece : l.piece ≡ piece_at l.self l.first;
  cover : IsCover l.self l.cover;
  later : l.first ≤ l.at;
  within : l.at ≤ l.blocks;
  loose : (block : ℕ) → l.first ≤ block → block < l.at → is_loose l.self block ≡ true;
  alike : (block : ℕ) → l.first ≤ block → block < l.at → AreAlikeAt l.self l.first block;
}

abbrev pub decreases-loop-at : goal.decreases-loop-at
decreases-loop-at l = l.blocks - l.at

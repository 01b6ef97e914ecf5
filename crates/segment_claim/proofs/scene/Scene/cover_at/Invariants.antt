use Rattle.std.proofs.Common.{◌≡◌, ℕ, ◌<◌, ◌≤◌, take}
use Rattle.dl_kinds.specs.Plan.{blocks_of}
use Rattle.segment_claim.proofs.Covers.{newest_of}
use Rattle.segment_claim.proofs.scene.Scene.cover_at.Given as goal

abbrev pub invariant-loop-claim : goal.invariant-loop-claim
invariant-loop-claim l = record {
  some : l.at < l.until;
  within : l.until ≤ blocks_of l.self.total l.self.piece_len;
  is : (block : ℕ) → l.at ≤ block → block < l.until → newest_of (take l.claim-index l.self.standing) block ≡ l.newest;
}

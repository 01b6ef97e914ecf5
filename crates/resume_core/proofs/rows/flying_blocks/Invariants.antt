use Rattle.std.proofs.Common.{◌≡◌, ◌<◌, ◌↔◌, ℕ, take, length, slice_get, Some, true}
use Rattle.dl_kinds.specs.Plan.{blocks_of}
use Rattle.resume_core.specs.Rows.{IsBlockOfOne}
use Rattle.resume_core.proofs.rows.flying_blocks.Given as goal

abbrev pub invariant-loop-piece : goal.invariant-loop-piece
invariant-loop-piece l = record {
  len : length l.row ≡ blocks_of l.plan.total l.plan.piece_len;
  exact : (block : ℕ) → (slice_get l.row block ≡ Some true)
      ↔ ((block < blocks_of l.plan.total l.plan.piece_len)
      × IsBlockOfOne (take l.piece-index l.piece-items) l.plan.piece_len block);
}

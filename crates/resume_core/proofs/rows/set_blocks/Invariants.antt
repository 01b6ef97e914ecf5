use Rattle.std.proofs.Common.{◌≡◌, ◌<◌, ◌↔◌, ◌⊎◌, ℕ, length, slice_get, Some, true}
use Rattle.dl_kinds.specs.Plan.{place_of}
use Rattle.resume_core.specs.Rows.{IsBlockIn}
use Rattle.resume_core.proofs.rows.set_blocks.Given as goal

abbrev pub invariant-loop-place : goal.invariant-loop-place
invariant-loop-place l = record {
  len : length l.row ≡ length l.fn.row;
  exact : (block : ℕ) → (slice_get l.row block ≡ Some true)
      ↔ ((slice_get l.fn.row block ≡ Some true)
      ⊎ (IsBlockIn l.piece l.plan.piece_len block × (place_of l.plan.piece_len block < l.place)));
}

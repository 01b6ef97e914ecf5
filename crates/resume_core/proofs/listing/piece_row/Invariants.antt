use Rattle.std.proofs.Common.{◌≡◌, ◌<◌, ◌+◌, ◌↔◌, ℕ, length, slice_get, Some, true}
use Rattle.resume_core.proofs.listing.piece_row.Given as goal

abbrev pub invariant-loop-place : goal.invariant-loop-place
invariant-loop-place l = record {
  len : length l.row ≡ l.count;
  exact : (k : ℕ) → (slice_get l.row k ≡ Some true) ↔ ((k < l.place) × (slice_get l.listed (l.first + k) ≡ Some true));
}

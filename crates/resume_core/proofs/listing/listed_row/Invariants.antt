use Rattle.std.proofs.Common.{◌≡◌, ◌<◌, ◌↔◌, ℕ, length, slice_get, Some, true}
use Rattle.piece_table.specs.Progress.{IsListed}
use Rattle.resume_core.proofs.listing.listed_row.Given as goal

abbrev pub invariant-loop-block : goal.invariant-loop-block
invariant-loop-block l = record {
  len : length l.row ≡ l.count;
  exact : (k : ℕ) → (slice_get l.row k ≡ Some true) ↔ ((k < l.block) × IsListed l.table k);
}

use Rattle.std.proofs.Common.{◌≡◌, ◌<◌, ◌↔◌, ℕ, length, slice_get, Some, true}
use Rattle.resume_core.specs.Rows.{BlockGiven}
use Rattle.resume_core.proofs.rows.given_blocks.Given as goal

abbrev pub invariant-loop-block : goal.invariant-loop-block
invariant-loop-block l = record {
  len : length l.row ≡ l.count;
  exact : (k : ℕ) → (slice_get l.row k ≡ Some true) ↔ ((k < l.block) × BlockGiven l.want l.lens l.verified l.flying k);
}

use Rattle.std.proofs.Common.{◌≡◌, ◌<◌, ◌↔◌, ℕ, length, slice_get, Some, true}
use Rattle.resume_core.specs.Rows.{ListedStands}
use Rattle.resume_core.proofs.rows.standing_pieces.Given as goal

abbrev pub invariant-loop-piece : goal.invariant-loop-piece
invariant-loop-piece l = record {
  len : length l.row ≡ l.want.plan.pieces;
  exact : (k : ℕ) → (slice_get l.row k ≡ Some true) ↔ ((k < l.piece) × ListedStands l.want l.lens l.listed k);
}

use Rattle.std.proofs.Common.{◌≡◌, ◌<◌, ℕ, Some, length, take, slice_get}
use Rattle.std.specs.Prelude.{option_copied}
use Rattle.span_map.specs.Layout.{total_of}
use Rattle.file_choice.specs.Selected.{holds_selected, is_selected}
use Rattle.file_choice.proofs.pieces.wanted_row.Given as goal

abbrev pub invariant-loop-place : goal.invariant-loop-place
invariant-loop-place l = record {
  start : l.start ≡ total_of (take l.place l.files);
  long : length l.row ≡ l.plan.pieces;
  pieces : (piece : ℕ) → piece < l.plan.pieces
      → slice_get l.row piece ≡ Some (holds_selected l.plan.total l.plan.piece_len
      (is_selected (option_copied l.select) (length l.files)) piece 1 0 (take l.place l.files));
}

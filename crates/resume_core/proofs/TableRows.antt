-- The rows of a table: its verified pieces, and its listed blocks.
use Rattle.std.proofs.Common.{◌≡◌, inl, ℕ, ◌+◌, ◌*◌, ◌<◌, ◌≤◌, Bool, true, List, length, slice_get, Some, sym, ap, ◌∙◌, arith}
use Rattle.std.proofs.lemmas.Option.{slice_get-get_or, slice_get_within, get_or_from_slice_get}
use Rattle.dl_kinds.specs.Plan.{pieces_of, blocks_of_piece, full_blocks}
use Rattle.dl_kinds.proofs.Cuts.{number}
use Rattle.piece_table.specs.Progress.{Progress, IsStart, IsValid, IsListed, IsFull, piece_part}
use Rattle.piece_table.proofs.Parts.{get_or-part}
use Rattle.control_file.specs.declared.control.Control.{Control}
use Rattle.control_file.specs.declared.want.Want.{Want}
use Rattle.resume_core.specs.Tables.{IsTableOf, IsListedRow, ListsJust, ListsTable}
use Rattle.control_file.specs.Wants.{IsWant}
use Rattle.resume_core.proofs.Places.{part_bit}
use Rattle.resume_core.proofs.Listings.{fits, part_long}

module _ (p : Progress) (row : List Bool) (some : 1 ≤ p.piece_len) (valid : IsValid p) (is : IsListedRow p row) where
  full_row : (piece : ℕ) → slice_get p.verified piece ≡ Some true → IsFull p.total p.piece_len row piece
  full_row piece verified k d within =
      let below : piece < pieces_of p.total p.piece_len =
      omega (arith, slice_get_within p.verified piece true verified, valid.start.pieces) in
      let first = piece * full_blocks p.piece_len in
      let count = blocks_of_piece p.total p.piece_len piece in
      let part = piece_part p.total p.piece_len p.landed piece in
      let inside : k < count = omega (arith, within, part_long p.total p.piece_len row some is.len piece below) in
      let there : k < length part = omega (
        arith,
        inside,
        part_long p.total p.piece_len p.landed some valid.start.blocks piece below,
      ) in
      let landed : slice_get p.landed (first + k) ≡ Some true =
      sym (part_bit p.landed first count k inside (fits p.total p.piece_len p.landed some valid.start.blocks piece below))
      ∙ slice_get-get_or part k d there ∙ ap (λ (b : Bool). Some b) (valid.start.full piece verified k d there) in
      let of = (number p.total p.piece_len piece k some inside).of in
      let listed : IsListed p (first + k) = record {
        landed = landed;
        kept = inl (ap (λ (i : ℕ). slice_get p.verified i) of ∙ verified);
      } in
      get_or-part row first count k d inside ∙ get_or_from_slice_get row (first + k) true d ((is.exact (first + k)).1 listed)

  rows_start : IsStart p.total p.piece_len p.verified row
  rows_start = record { pieces = valid.start.pieces; blocks = is.len; full = full_row }

pub table_start : (want : Want) (p : Progress) (verified row : List Bool) → IsWant want → IsTableOf want p → IsValid p
    → verified ≡ p.verified → IsListedRow p row → IsStart want.plan.total want.plan.piece_len verified row
table_start want p verified row is table valid same listed =
    rw (same, ← table.total, ← table.piece_len)
    (rows_start p row (omega (arith, table.piece_len, is.plan.some)) valid listed)

pub lists_table : (want : Want) (p : Progress) (verified row : List Bool) (control : Control) → verified ≡ p.verified
    → IsListedRow p row → ListsJust want verified row control → ListsTable want p control
lists_table want p verified row control same is just = record {
  listing = just.listing;
  pieces = just.pieces ∙ same;
  blocks = λ block. (
    λ lists. (is.exact block).0 ((just.blocks block).0 lists),
    λ lists. (just.blocks block).1 ((is.exact block).1 lists),
  );
}

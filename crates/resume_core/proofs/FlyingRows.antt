-- Rows of the blocks that have come of pieces in flight.
use Rattle.std.proofs.Common.{◌≡◌, ◌↔◌, ◌⊎◌, inl, inr, ⊎_elim, ◌∙◌, ℕ, ◌+◌, ◌*◌, ◌<◌, Bool, true, false, List, length, set, slice_get, Some, sym, ap, arith}
use Rattle.std.proofs.lemmas.Bool.{cases_eq}
use Rattle.dl_kinds.specs.Plan.{full_blocks, piece_of, place_of, IsNumber}
use Rattle.piece_table.proofs.Landing.{slice_get-set_same, slice_get-set_other}
use Rattle.control_file.specs.declared.control.InFlight.{InFlight}
use Rattle.resume_core.specs.Rows.{IsBlockIn}
use Rattle.resume_core.proofs.OpenedRows.{block_is}
use Rattle.resume_core.proofs.Places.{bit_differs}

module _ (piece : InFlight) (len : ℕ) (was : List Bool) where
  -- the bits of the piece's blocks up to this place are set
  abbrev pub SetTo : List Bool → ℕ → Type 0
  SetTo row place =
      (block : ℕ) → (slice_get row block ≡ Some true)
      ↔ ((slice_get was block ≡ Some true) ⊎ (IsBlockIn piece len block × (place_of len block < place)))

  module _ (row new : List Bool) (place : ℕ) (exact : SetTo row place) where
    wider : (block : ℕ) → slice_get row block ≡ Some true
        → (slice_get was block ≡ Some true) ⊎ (IsBlockIn piece len block × (place_of len block < place + 1))
    wider block is = ⊎_elim (λ before. inl before) (λ of. inr (of.0, omega (arith, of.1))) ((exact block).0 is)

    pub set_on : IsNumber len piece.index place (piece.index * full_blocks len + place)
        → piece.index * full_blocks len + place < length row → slice_get piece.blocks place ≡ Some true
        → new ≡ set row (piece.index * full_blocks len + place) true → SetTo new (place + 1)
    set_on at within bit is block =
        let n : ℕ = piece.index * full_blocks len + place in
        ⊎_elim
        (λ (same : block ≡ n). (
          λ now. inr (
            (
              ap (λ (k : ℕ). piece_of len k) same ∙ at.of,
              ap (λ (k : ℕ). slice_get piece.blocks (place_of len k)) same
                  ∙ ap (λ (k : ℕ). slice_get piece.blocks k) at.at ∙ bit,
            ),
            omega (arith, ap (λ (k : ℕ). place_of len k) same, at.at),
          ),
          λ either. ap (λ (r : List Bool). slice_get r block) is ∙ ap (λ (k : ℕ). slice_get (set row n true) k) same
              ∙ slice_get-set_same row n true within,
        ))
        (λ other.
        let kept : slice_get new block ≡ slice_get row block =
        ap (λ (r : List Bool). slice_get r block) is ∙ slice_get-set_other row n block true other in (
          λ now. wider block (sym kept ∙ now),
          λ either. kept ∙ (exact block).1 (⊎_elim
              (λ before. inl before)
              (λ of. inr (
                of.0,
                ⊎_elim
                    (λ (same : place_of len block ≡ place). absurd
                    (other (block_is len block piece.index place of.0.0 same)))
                    (λ differs. omega (arith, of.1, differs))
                    (cases_eq (place_of len block) place),
              ))
              either),
        ))
        (cases_eq block n)

    pub set_past : slice_get piece.blocks place ≡ Some false → new ≡ row → SetTo new (place + 1)
    set_past bit is block =
        let kept : slice_get new block ≡ slice_get row block = ap (λ (r : List Bool). slice_get r block) is in (
          λ now. wider block (sym kept ∙ now),
          λ either. kept ∙ (exact block).1 (⊎_elim
              (λ before. inl before)
              (λ of. inr (
                of.0,
                ⊎_elim
                    (λ (same : place_of len block ≡ place). absurd (bit_differs piece.blocks place bit
                    (ap (λ (k : ℕ). slice_get piece.blocks k) (sym same) ∙ of.0.1)))
                    (λ differs. omega (arith, of.1, differs))
                    (cases_eq (place_of len block) place),
              ))
              either),
        )

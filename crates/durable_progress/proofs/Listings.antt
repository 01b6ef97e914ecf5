-- What a save of a table lists.
use Rattle.std.proofs.Common.{◌≡◌, ◌⊎◌, inl, inr, ⊎_elim, ℕ, ◌<◌, Bool, true, false, List, map, length, slice_get, get_or, Some, refl, sym, ap, ◌∙◌, arith}
use Rattle.std.specs.Prelude.{◌↔◌, ◌&&◌, ◌||◌, not}
use Rattle.std.specs.List.{range_with_len}
use Rattle.std.proofs.lemmas.List.FromFn.{get_or-map-range_with_len, length-map-range_with_len}
use Rattle.std.proofs.lemmas.Option.{slice_get-get_or, slice_get_within, get_or_from_slice_get}
use Rattle.dl_kinds.specs.Plan.{IsPlan, pieces_of, piece_of}
use Rattle.dl_kinds.specs.PlanLaws.{BlocksAreOfPieces}
use Rattle.piece_table.specs.Progress.{Progress, IsListed, IsValid}
use Rattle.dl_history.specs.Accounts.{listing_of}
use Rattle.dl_history.proofs.Bools.{and_left, and_right, or_cases}

-- ---- rows that are made by a test

row_within : (test : ℕ → Bool) (n i : ℕ) → slice_get (map test (range_with_len 0 n)) i ≡ Some true → i < n
row_within test n i is = omega (arith, slice_get_within _ i true is, length-map-range_with_len test 0 n)

pub row_true : (test : ℕ → Bool) (n i : ℕ) → slice_get (map test (range_with_len 0 n)) i ≡ Some true
    → (i < n) × (test i ≡ true)
row_true test n i is =
    let below = row_within test n i is in
    (below, sym (get_or-map-range_with_len test 0 n i i false below (omega arith)) ∙ get_or_from_slice_get _ i true false is)

pub true_row : (test : ℕ → Bool) (n i : ℕ) → i < n → test i ≡ true
    → slice_get (map test (range_with_len 0 n)) i ≡ Some true
true_row test n i below is =
    let row = map test (range_with_len 0 n) in
    let inside : i < length row = omega (arith, below, length-map-range_with_len test 0 n) in
    slice_get-get_or row i false inside
    ∙ ap (λ (b : Bool). Some b) (get_or-map-range_with_len test 0 n i i false below (omega arith) ∙ is)

-- ---- a table

pub some_at : (row : List Bool) (i : ℕ) → get_or row i false ≡ true → i < length row → slice_get row i ≡ Some true
some_at row i is below = slice_get-get_or row i false below ∙ ap (λ (b : Bool). Some b) is

flipped : (a : Bool) → not a ≡ true → a ≡ false
flipped true is = absurd cc
flipped false is = refl

not_at : (row : List Bool) (i : ℕ) → not (get_or row i false) ≡ true → i < length row → slice_get row i ≡ Some false
not_at row i is below = slice_get-get_or row i false below ∙ ap (λ (b : Bool). Some b) (flipped (get_or row i false) is)

both_kept : (v s w : Bool) → (v ≡ true) ⊎ ((s ≡ false) × (w ≡ false)) → (v || not s && not w) ≡ true
both_kept true s w kept = refl
both_kept false s w (inl is) = absurd cc
both_kept false true w (inr are) = absurd (let s = are.0 in cc)
both_kept false false true (inr are) = absurd (let w = are.1 in cc)
both_kept false false false (inr are) = refl

module _ (of_pieces : BlocksAreOfPieces) (p : Progress) (plan : IsPlan p.total p.piece_len) (valid : IsValid p) where
  -- the test of a block
  abbrev test : ℕ → Bool
  test b =
      let piece = piece_of p.piece_len b in
      get_or p.landed b false
      && (get_or p.verified piece false || not (get_or p.sole piece false) && not (get_or p.wrong piece false))

  piece_known : (b : ℕ) → b < length p.landed → piece_of p.piece_len b < pieces_of p.total p.piece_len
  piece_known b below = (of_pieces p.total p.piece_len b plan (omega (arith, below, valid.start.blocks))).piece

  is_listed : (b : ℕ) → b < length p.landed → test b ≡ true → IsListed p b
  is_listed b below is =
      let piece = piece_of p.piece_len b in
      let known = piece_known b below in
      let kept = and_right (get_or p.landed b false) _ is in
      record {
        landed = some_at p.landed b (and_left (get_or p.landed b false) _ is) below;
        kept = or_cases (get_or p.verified piece false) _ kept
            (λ verified. inl (some_at p.verified piece verified (omega (arith, known, valid.start.pieces))))
            (λ others. inr (
              not_at p.sole piece (and_left (not (get_or p.sole piece false)) _ others) (omega (arith, known, valid.sole)),
              not_at p.wrong piece (and_right (not (get_or p.sole piece false)) _ others) (omega (arith, known, valid.wrong)),
            ));
      }

  lists : (b : ℕ) → IsListed p b → test b ≡ true
  lists b listed =
      let piece = piece_of p.piece_len b in
      let landed : get_or p.landed b false ≡ true = get_or_from_slice_get p.landed b true false listed.landed in
      let kept = both_kept (get_or p.verified piece false) (get_or p.sole piece false) (get_or p.wrong piece false)
      (⊎_elim (λ verified. inl (get_or_from_slice_get p.verified piece true false verified))
      (λ others. inr (
        get_or_from_slice_get p.sole piece false false others.0,
        get_or_from_slice_get p.wrong piece false false others.1,
      )) listed.kept) in
      rw (landed, kept) refl

  pub table_lists : (b : ℕ) → (slice_get (listing_of p).blocks b ≡ Some true) ↔ IsListed p b
  table_lists b = (
    λ is. let at = row_true test (length p.landed) b is in is_listed b at.0 at.1,
    λ listed. true_row test (length p.landed) b (slice_get_within p.landed b true listed.landed) (lists b listed),
  )

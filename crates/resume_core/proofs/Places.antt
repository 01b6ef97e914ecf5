-- Rows of bits that are made from the front, and parts of rows.
use Rattle.std.proofs.Common.{◌≡◌, ◌↔◌, ℕ, ◌+◌, ◌<◌, ◌≤◌, Bool, true, false, List, length, get_or, slice_get, set, replicate, Some, sym, subst, refl, ap, ◌∙◌, ⊎_elim, arith}
use Rattle.std.proofs.lemmas.Bool.{cases_eq, false≢true}
use Rattle.std.proofs.lemmas.List.{get_or-replicate, length-replicate, length-set, same_lists}
use Rattle.std.proofs.lemmas.Option.{slice_get-get_or, slice_get_within, get_or_from_slice_get}
use Rattle.dl_kinds.specs.Lists.{part_at}
use Rattle.piece_table.proofs.Landing.{slice_get-set_same, slice_get-set_other}
use Rattle.piece_table.proofs.Parts.{length-part, get_or-part}

-- the places before this one are true just where this holds, and no other is true
abbrev pub RowTo : List Bool → ℕ → (ℕ → Type 0) → Type 0
RowTo row n P = (k : ℕ) → (slice_get row k ≡ Some true) ↔ ((k < n) × P k)

pub never : (n k : ℕ) → slice_get (replicate n false) k ≡ Some true → ⊥
never n k is =
    let below : k < n = omega (arith, slice_get_within (replicate n false) k true is, length-replicate {A = Bool} n false) in
    false≢true (sym (get_or-replicate n k false false below) ∙ get_or_from_slice_get (replicate n false) k true false is)

pub row_start : (n : ℕ) (P : ℕ → Type 0) → RowTo (replicate n false) 0 P
row_start n P k = (λ is. absurd (never n k is), λ lower. absurd (omega (arith, lower.0)))

module _ (row : List Bool) (i : ℕ) (P : ℕ → Type 0) (exact : RowTo row i P) where
  pub row_set : i < length row → P i → RowTo (set row i true) (i + 1) P
  row_set within is k = ⊎_elim
      (λ (same : k ≡ i). (
        λ now. (omega (arith, same), subst P (sym same) is),
        λ lower. subst (λ (n : ℕ). slice_get (set row i true) n ≡ Some true) (sym same)
            (slice_get-set_same row i true within),
      ))
      (λ other. (
        λ now. let was = (exact k).0 (sym (slice_get-set_other row i k true other) ∙ now) in
            (omega (arith, was.0), was.1),
        λ lower. slice_get-set_other row i k true other ∙ (exact k).1 (omega (arith, lower.0), lower.1),
      ))
      (cases_eq k i)

  pub row_skip : (P i → ⊥) → RowTo row (i + 1) P
  row_skip none k = (
    λ now. let was = (exact k).0 now in (omega (arith, was.0), was.1),
    λ lower. ⊎_elim
        (λ (same : k ≡ i). absurd (none (subst P same lower.1)))
        (λ other. (exact k).1 (omega (arith, lower.0), lower.1))
        (cases_eq k i),
  )

same_bit : (a b : Bool) → (a ≡ true → b ≡ true) → (b ≡ true → a ≡ true) → a ≡ b
same_bit true b one two = sym (one refl)
same_bit false true one two = two refl
same_bit false false one two = refl

pub row_is_part : (listed row : List Bool) (first count : ℕ) → first + count ≤ length listed → length row ≡ count
    → RowTo row count (λ k. slice_get listed (first + k) ≡ Some true) → row ≡ part_at listed first count
row_is_part listed row first count within long exact =
    same_lists row (part_at listed first count) (long ∙ sym (length-part listed first count within))
    (λ k d below.
    let inside : k < count = omega (arith, below, long) in
    same_bit (get_or row k d) (get_or listed (first + k) d)
    (λ is. get_or_from_slice_get listed (first + k) true d
    ((exact k).0 (slice_get-get_or row k d below ∙ ap (λ (b : Bool). Some b) is)).1)
    (λ is. get_or_from_slice_get row k true d
    ((exact k).1 (
      inside,
      slice_get-get_or listed (first + k) d (omega (arith, inside, within))
          ∙ ap (λ (b : Bool). Some b) is,
    )))
    ∙ sym (get_or-part listed first count k d inside))

pub part_bit : (xs : List Bool) (at len k : ℕ) → k < len → at + len ≤ length xs
    → slice_get (part_at xs at len) k ≡ slice_get xs (at + k)
part_bit xs at len k below within =
    slice_get-get_or (part_at xs at len) k false (omega (arith, below, length-part xs at len within))
    ∙ ap (λ (b : Bool). Some b) (get_or-part xs at len k false below)
    ∙ sym (slice_get-get_or xs (at + k) false (omega (arith, below, within)))

-- the row after a place was looked at
pub row_on : (row new : List Bool) (i : ℕ) (P : ℕ → Type 0) → RowTo row i P → i < length row → P i → new ≡ set row i true
    → (length new ≡ length row) × RowTo new (i + 1) P
row_on row new i P exact within is same = (
  ap (λ (r : List Bool). length r) same ∙ length-set row i true,
  subst (λ (r : List Bool). RowTo r (i + 1) P) (sym same) (row_set row i P exact within is),
)

pub row_past : (row new : List Bool) (i : ℕ) (P : ℕ → Type 0) → RowTo row i P → (P i → ⊥) → new ≡ row
    → (length new ≡ length row) × RowTo new (i + 1) P
row_past row new i P exact none same = (
  ap (λ (r : List Bool). length r) same,
  subst (λ (r : List Bool). RowTo r (i + 1) P) (sym same) (row_skip row i P exact none),
)

pub bit_differs : (xs : List Bool) (i : ℕ) → slice_get xs i ≡ Some false → slice_get xs i ≡ Some true → ⊥
bit_differs xs i is not_so = false≢true (sym (get_or_from_slice_get xs i false false is) ∙ get_or_from_slice_get xs i true false not_so)

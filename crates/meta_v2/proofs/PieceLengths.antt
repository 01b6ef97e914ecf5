-- The thirteen lengths that pieces may have.
use Rattle.std.proofs.Common.{◌≡◌, ℕ, ◌≤◌, ◌<◌, ◌+◌, ◌-◌, ◌^◌, true, false, length, refl, sym, ap, arith, ◌∙◌, inl, inr}
use Rattle.std.specs.Bool.{Decides}
use Rattle.std.specs.List.{list_any, range_with_len, HoldsAt}
use Rattle.std.specs.Prelude.{◌==◌}
use Rattle.std.proofs.lemmas.Bool.{cases_lt, false_from_ne_true}
use Rattle.std.proofs.lemmas.Bool.Decides.{Decides-by_or, Decides-eqb}
use Rattle.std.proofs.lemmas.List.FromFn.{get_or-range_with_len, length-range_with_len}
use Rattle.std.proofs.lemmas.Nat.{pow_below}
use Rattle.merkle_trees.specs.Trees.{IsPieceLen}
use Rattle.meta_v2.specs.Rules.{is_length_of_pieces}

-- it is one of the powers
abbrev IsListed : ℕ → Type 0
IsListed n =
    (i : ℕ) × (i < length (range_with_len 14 13)) × HoldsAt (λ k. n ≡ 2 ^ k) (range_with_len 14 13) i

listed_decides : (n : ℕ) → Decides (is_length_of_pieces n) (IsListed n)
listed_decides n =
    Decides-by_or (λ k. n == 2 ^ k) (λ k. n ≡ 2 ^ k) (list_any (λ k. n == 2 ^ k)) (λ k. Decides-eqb n (2 ^ k)) refl
    (λ _ _. refl) (range_with_len 14 13)

-- powers rise
rise : (low high : ℕ) → low ≤ high → 2 ^ low ≤ 2 ^ high
rise low high le = elim (cases_lt low high) [
  | inl less ↦ (let step = pow_below low high less in omega (arith, step))
  | inr more ↦
      let same : low ≡ high = omega arith in
      let equal : 2 ^ low ≡ 2 ^ high = ap (λ (k : ℕ). 2 ^ k) same in omega (arith, equal)
]

listed_lengths : (n : ℕ) → IsListed n → IsPieceLen n
listed_lengths n listed =
    let k = 14 + listed.0 in
    let within : listed.0 < 13 = omega (arith, listed.1, length-range_with_len 14 13) in
    let is : n ≡ 2 ^ k = listed.2 0 ∙ ap (λ (j : ℕ). 2 ^ j) (get_or-range_with_len 14 13 listed.0 0 within) in
    let low = rise 14 k (omega arith) in
    let high = rise k 26 (omega arith) in
    record { power = (k, is); least = omega (arith, is, low); most = omega (arith, is, high) }

length_is_listed : (n : ℕ) → IsPieceLen n → IsListed n
length_is_listed n len =
    let k = len.power.0 in
    let low : 14 ≤ k = elim (cases_lt k 14) [
      | inl less ↦ absurd (let step = pow_below k 14 less in omega (arith, step, len.least, len.power.1))
      | inr more ↦ more
    ] in
    let high : k ≤ 26 = elim (cases_lt 26 k) [
      | inl more ↦ absurd (let step = pow_below 26 k more in omega (arith, step, len.most, len.power.1))
      | inr less ↦ less
    ] in
    let i = k - 14 in
    let within : i < 13 = omega (arith, low, high) in
    let at : 14 + i ≡ k = omega (arith, low) in (
      i,
      omega (arith, within, length-range_with_len 14 13),
      λ d. len.power.1 ∙ ap (λ (j : ℕ). 2 ^ j) (sym (get_or-range_with_len 14 13 i d within ∙ at)),
    )

pub length_sound : (n : ℕ) → is_length_of_pieces n ≡ true → IsPieceLen n
length_sound n is = listed_lengths n ((listed_decides n).0 is)

pub is_length : (n : ℕ) → IsPieceLen n → is_length_of_pieces n ≡ true
is_length n len = (listed_decides n).1 (length_is_listed n len)

pub no_length : (n : ℕ) → (IsPieceLen n → ⊥) → is_length_of_pieces n ≡ false
no_length n not_len = false_from_ne_true (is_length_of_pieces n) (λ is. not_len (length_sound n is))

pub too_long : (n : ℕ) → 2 ^ 32 ≤ n → is_length_of_pieces n ≡ false
too_long n long = no_length n (λ len. let most = len.most in omega (arith, most, long))

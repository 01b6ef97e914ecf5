-- Pieces in flight in the order of their numbers, each with a block that has come.
use Rattle.std.proofs.Common.{◌≡◌, ℕ, zero, suc, ◌+◌, ◌-◌, ◌<◌, ◌≤◌, Bool, true, false, cond, List, [], ◌∷◌, length, get_or, map, Contains, count_by, refl, sym, ap, ◌∙◌, subst, ⊎_elim, arith}
use Rattle.std.specs.List.Sorted.{IsStrictlyIncreasing}
use Rattle.std.proofs.lemmas.Bool.{cases_eq}
use Rattle.std.proofs.lemmas.List.{get_or-map, get_or_default, length-map}
use Rattle.std.proofs.lemmas.List.Sums.{sum_by-cons}
use Rattle.control_file.specs.declared.control.InFlight.{InFlight}

abbrev pub numbers : List InFlight → List ℕ
numbers pieces = map (λ piece. piece.index) pieces

module _ (pieces : List InFlight) (i : ℕ) (a b : InFlight) (some : 1 ≤ i) (within : i < length pieces) where
  before : get_or (numbers pieces) (i - 1) 0 ≡ (get_or pieces (i - 1) a).index
  before = get_or-map (λ piece. piece.index) pieces (i - 1) a 0 (omega arith)

  here : get_or (numbers pieces) i 0 ≡ (get_or pieces i b).index
  here = get_or-map (λ piece. piece.index) pieces i b 0 within

  pub falls : (get_or pieces i b).index ≤ (get_or pieces (i - 1) a).index → IsStrictlyIncreasing (numbers pieces) → ⊥
  falls least rises =
      let next : i - 1 + 1 ≡ i = omega arith in
      let rise = rises (i - 1) (omega (arith, length-map pieces (λ piece. piece.index))) in
      let rise_here = subst (λ (k : ℕ). get_or (numbers pieces) (i - 1) 0 < get_or (numbers pieces) k 0) next rise in
      omega (arith, before, here, rise_here, least)

  pub rises_on : (get_or pieces (i - 1) a).index < (get_or pieces i b).index
      → ((k : ℕ) → k + 1 < i → get_or (numbers pieces) k 0 < get_or (numbers pieces) (k + 1) 0)
      → (k : ℕ) → k + 1 < i + 1 → get_or (numbers pieces) k 0 < get_or (numbers pieces) (k + 1) 0
  rises_on more front k below = ⊎_elim
      (λ (last : k + 1 ≡ i).
      let rise : get_or (numbers pieces) (i - 1) 0 < get_or (numbers pieces) i 0 = omega (arith, before, here, more) in
      let at : i - 1 ≡ k = omega arith in
      subst (λ (n : ℕ). get_or (numbers pieces) k 0 < get_or (numbers pieces) n 0) (sym last)
      (subst (λ (n : ℕ). get_or (numbers pieces) n 0 < get_or (numbers pieces) i 0) at rise))
      (λ other. front k (omega arith))
      (cases_eq (k + 1) i)

pub none_counted : (row : List Bool) → count_by (λ bit. bit) row ≡ 0 → Contains row true → ⊥
none_counted [] none (k, within, is) = absurd (omega arith)
none_counted (true ∷ row) none found = absurd (omega (arith, none, sum_by-cons (λ bit. cond bit 1 0) true row))
none_counted (false ∷ row) none (zero, within, is) = absurd cc
none_counted (false ∷ row) none (suc k, within, is) =
    let zero_more : count_by (λ bit. bit) row ≡ 0 = none in
    none_counted row (omega (arith, zero_more)) (k, omega arith, is)

pub some_counted : (row : List Bool) → (count_by (λ bit. bit) row ≡ 0 → ⊥) → Contains row true
some_counted [] some = absurd (some refl)
some_counted (true ∷ row) some = (0, omega arith, refl)
some_counted (false ∷ row) some =
    let more : count_by (λ bit. bit) row ≡ 0 → ⊥ = some in
    let rest = some_counted row (λ none. more (omega (arith, none))) in
    (suc rest.0, omega (arith, rest.1), rest.2)

pub has_more : (pieces : List InFlight) (i : ℕ) (piece : InFlight) → piece ≡ get_or pieces i piece → i < length pieces
    → Contains piece.blocks true
    → ((k : ℕ) → k < i → (d : InFlight) → Contains (get_or pieces k d).blocks true)
    → (k : ℕ) → k < i + 1 → (d : InFlight) → Contains (get_or pieces k d).blocks true
has_more pieces i piece is within some front k below d = ⊎_elim
    (λ (last : k ≡ i).
    let same : piece ≡ get_or pieces k d = is ∙ get_or_default pieces i piece d within
    ∙ ap (λ n. get_or pieces n d) (sym last) in
    subst (λ (p : InFlight). Contains p.blocks true) same some)
    (λ other. front k (omega arith) d)
    (cases_eq k i)

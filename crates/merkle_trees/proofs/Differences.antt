-- Where two rows of leaves differ.
use Rattle.std.proofs.Common.{◌≡◌, ℕ, zero, suc, ◌+◌, ◌<◌, true, false, cond, List, [], ◌∷◌, ◌++◌, length, get_or, ap, sym, subst, arith, ◌∙◌, inl, inr}
use Rattle.std.specs.Prelude.{Contains, not}
use Rattle.std.specs.List.{All, filter, range_with_len}
use Rattle.std.specs.Str.{bytes_eq}
use Rattle.std.proofs.lemmas.Bool.{cases_lt, cond-true, cond-false, false_from_ne_true}
use Rattle.std.proofs.lemmas.List.{map-id, append-nil}
use Rattle.std.proofs.lemmas.List.Elements.{All-filter, All-contains, filter_passes, Contains-append_left, Contains-push}
use Rattle.std.proofs.lemmas.List.FromFn.{filter_of_map_range_with_len_more, length-range_with_len, get_or-range_with_len}
use Rattle.std.proofs.lemmas.Slice.Eq.{bytes_eq-Decides}
use Rattle.merkle_trees.specs.Places.{differs_at, differing_places}
use Rattle.merkle_trees.specs.Laws.{HaveOtherLeaves}

-- one place more
pub differing-more : (wrong right : List (List ℕ)) (place : ℕ)
    → filter (differs_at wrong right) (range_with_len 0 (place + 1))
    ≡ filter (differs_at wrong right) (range_with_len 0 place) ++ cond (differs_at wrong right place) (place ∷ []) []
differing-more wrong right place =
    let more = filter_of_map_range_with_len_more (differs_at wrong right) (λ (at : ℕ). at) 0 place place
    (omega arith) in
    ap (filter (differs_at wrong right)) (sym (map-id (range_with_len 0 (place + 1)))) ∙ more
    ∙ ap (λ (row : List ℕ). filter (differs_at wrong right) row ++ cond (differs_at wrong right place)
    (place ∷ []) [])
    (map-id (range_with_len 0 place))

pub differing-yes : (wrong right : List (List ℕ)) (place : ℕ) → differs_at wrong right place ≡ true
    → filter (differs_at wrong right) (range_with_len 0 (place + 1))
    ≡ filter (differs_at wrong right) (range_with_len 0 place) ++ place ∷ []
differing-yes wrong right place is = differing-more wrong right place
    ∙ ap (λ (row : List ℕ). filter (differs_at wrong right) (range_with_len 0 place) ++ row)
    (cond-true (differs_at wrong right place) (place ∷ []) [] is)

pub differing-no : (wrong right : List (List ℕ)) (place : ℕ) → differs_at wrong right place ≡ false
    → filter (differs_at wrong right) (range_with_len 0 (place + 1))
    ≡ filter (differs_at wrong right) (range_with_len 0 place)
differing-no wrong right place is = differing-more wrong right place
    ∙ ap (λ (row : List ℕ). filter (differs_at wrong right) (range_with_len 0 place) ++ row)
    (cond-false (differs_at wrong right place) (place ∷ []) [] is)
    ∙ append-nil (filter (differs_at wrong right) (range_with_len 0 place))

-- each place of different leaves is listed
listed : (wrong right : List (List ℕ)) (count place : ℕ) → place < count → differs_at wrong right place ≡ true
    → Contains (filter (differs_at wrong right) (range_with_len 0 count)) place
listed wrong right zero place below is = absurd (omega arith)
listed wrong right (suc count) place below is =
    let next : suc count ≡ count + 1 = omega arith in
    subst (λ (some : ℕ). Contains (filter (differs_at wrong right) (range_with_len 0 some)) place) (sym next)
    (elim (cases_lt place count) [
      | inl before ↦
          subst (λ (row : List ℕ). Contains row place) (sym (differing-more wrong right count))
          (Contains-append_left (filter (differs_at wrong right) (range_with_len 0 count)) _ place
          (listed wrong right count place before is))
      | inr behind ↦
          let here : place ≡ count = omega arith in
          let also : differs_at wrong right count ≡ true = ap (differs_at wrong right) (sym here) ∙ is in
          subst (λ (row : List ℕ). Contains row place) (sym (differing-yes wrong right count also))
          (subst (λ (at : ℕ). Contains (filter (differs_at wrong right)
          (range_with_len 0 count) ++ at ∷ []) place) here
          (Contains-push (filter (differs_at wrong right) (range_with_len 0 count)) place))
    ])

-- what is listed is a place, and the leaves there are different
within : (count : ℕ) → All (λ (place : ℕ). place < count) (range_with_len 0 count)
within count place d below =
    let long = length-range_with_len 0 count in
    let inside : place < count = omega (arith, long) in
    let at = get_or-range_with_len 0 count place d inside in omega (arith, at)

pub differing-is : (wrong right : List (List ℕ)) (place : ℕ) → Contains (differing_places wrong right) place
    → HaveOtherLeaves wrong right place
differing-is wrong right place is = record {
  within = All-contains (λ (at : ℕ). at < length wrong) (differing_places wrong right) place
      (All-filter (differs_at wrong right) (λ (at : ℕ). at < length wrong) (range_with_len 0 (length wrong))
      (within (length wrong))) is;
  other = λ same.
      let passes : differs_at wrong right place ≡ true
      = All-contains (λ (at : ℕ). differs_at wrong right at ≡ true) (differing_places wrong right) place
      (filter_passes (differs_at wrong right) (range_with_len 0 (length wrong))) is in
      let equal : bytes_eq (get_or wrong place []) (get_or right place []) ≡ true
      = (bytes_eq-Decides (get_or wrong place []) (get_or right place [])).1 same in
      let fails : differs_at wrong right place ≡ false = ap not equal in cc;
}

pub differing-has : (wrong right : List (List ℕ)) (place : ℕ) → HaveOtherLeaves wrong right place
    → Contains (differing_places wrong right) place
differing-has wrong right place are =
    let unequal : bytes_eq (get_or wrong place []) (get_or right place []) ≡ false
    = false_from_ne_true (bytes_eq (get_or wrong place []) (get_or right place []))
    (λ equal. are.other ((bytes_eq-Decides (get_or wrong place []) (get_or right place [])).0 equal)) in
    listed wrong right (length wrong) place are.within (ap not unequal)

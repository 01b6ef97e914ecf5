-- The places of a run of pieces, and a new place.
use Rattle.std.proofs.Common.{◌≡◌, ℕ, ◌+◌, ◌-◌, ◌<◌, ◌≤◌, List, [], ◌∷◌, ◌++◌, Bool, true, false, cond, length, take, drop, get_or, refl, sym, ◌∙◌, ap, subst, inl, inr, arith, append-nil}
use Rattle.std.specs.Prelude.{filter, insert, ◌==◌, if◌then◌else◌}
use Rattle.std.specs.List.{AllWithin}
use Rattle.std.proofs.lemmas.List.{take-append-drop, length-drop, get_or-drop}
use Rattle.std.proofs.lemmas.List.Elements.{filter-append}
use Rattle.std.proofs.lemmas.Bool.{cases_lt}
use Rattle.std.proofs.lemmas.Bool.Decides.{nat_tests}
use Rattle.mirror_blame.specs.declared.places.Place.{Place}
use Rattle.mirror_blame.specs.Places.{stands_at, is_within}
use Rattle.mirror_blame.proofs.ListLemmas.{filter-All, filter-None, All-take_within, All-drop_within}

blank : Place
blank = record { piece = 0; mirror = 0; at = 0 }

-- a run begins before it ends
pub run_rises : (first last from to : ℕ) (xs : List Place) → first ≤ last → from ≤ length xs
    → AllWithin (λ place. place.piece < first) xs 0 from → AllWithin (λ place. last + 1 ≤ place.piece) xs to (length xs) → from ≤ to
run_rises first last from to xs order bound before after = elim (cases_lt to from) [
  | inl less ↦ absurd (let low = before to blank (omega arith) less in let high = after to blank (omega arith) (omega arith) in omega arith)
  | inr more ↦ more
]

no_run_before : (first last : ℕ) (place : Place) → place.piece < first → is_within first last place ≡ false
no_run_before first last place h = grind (arith, nat_tests)

no_run_after : (first last : ℕ) (place : Place) → last + 1 ≤ place.piece → is_within first last place ≡ false
no_run_after first last place h = grind (arith, nat_tests)

in_run : (first last : ℕ) (place : Place) → first ≤ place.piece → place.piece < last + 1 → is_within first last place ≡ true
in_run first last place low high = grind (arith, nat_tests)

-- three parts of a list, of which a filter keeps the one in the middle
middle : (p : Place → Bool) (from to : ℕ) (xs : List Place) → from ≤ to → to ≤ length xs
    → AllWithin (λ place. p place ≡ false) xs 0 from → AllWithin (λ place. p place ≡ true) xs from to → AllWithin (λ place. p place ≡ false) xs to (length xs)
    → take (to - from) (drop from xs) ≡ filter p xs
middle p from to xs rises bound low mid high =
    let rest : List Place = drop from xs in
    let n : ℕ = to - from in
    let fits : n ≤ length rest = omega (arith, length-drop from xs) in
    let front : filter p (take from xs) ≡ [] = filter-None p (take from xs) (All-take_within (λ place. p place ≡ false) xs from (omega arith) low) in
    let kept : filter p (take n rest) ≡ take n rest = filter-All p (take n rest) (All-take_within (λ place. p place ≡ true) rest n fits
    (λ k d _ below. subst (λ (x : Place). p x ≡ true) (sym (get_or-drop from xs k d)) (mid (from + k) d (omega arith) (omega arith)))) in
    let back : filter p (drop n rest) ≡ [] = filter-None p (drop n rest) (All-drop_within (λ place. p place ≡ false) rest n
    (λ k d above below. subst (λ (x : Place). p x ≡ false) (sym (get_or-drop from xs k d)) (high (from + k) d (omega arith) (omega (arith, length-drop from xs))))) in
    let parts : filter p rest ≡ take n rest = ap (filter p) (sym (take-append-drop n rest)) ∙ filter-append p (take n rest) (drop n rest) ∙ rw (kept, back) (append-nil (take n rest)) in
    sym (ap (filter p) (sym (take-append-drop from xs)) ∙ filter-append p (take from xs) rest ∙ rw (front) parts)

-- and has exactly the places of its pieces
pub run_is : (first last from to : ℕ) (xs : List Place) → from ≤ to → to ≤ length xs
    → AllWithin (λ place. place.piece < first) xs 0 from → AllWithin (λ place. first ≤ place.piece) xs from (length xs)
    → AllWithin (λ place. place.piece < last + 1) xs 0 to → AllWithin (λ place. last + 1 ≤ place.piece) xs to (length xs)
    → take (to - from) (drop from xs) ≡ filter (is_within first last) xs
run_is first last from to xs rises bound low above below high =
    middle (is_within first last) from to xs rises bound
    (λ k d a b. no_run_before first last (get_or xs k d) (low k d a b))
    (λ k d a b. in_run first last (get_or xs k d) (above k d a (omega arith)) (below k d (omega arith) b))
    (λ k d a b. no_run_after first last (get_or xs k d) (high k d a b))

-- a place that is put in takes part in a filter where it stands
filter-insert : (p : Place → Bool) (at : ℕ) (new : Place) (xs : List Place)
    → filter p (insert xs at new) ≡ filter p (take at xs) ++ cond (p new) (new ∷ filter p (drop at xs)) (filter p (drop at xs))
filter-insert p at new xs = filter-append p (take at xs) (new ∷ drop at xs)

filter-parts : (p : Place → Bool) (at : ℕ) (xs : List Place) → filter p xs ≡ filter p (take at xs) ++ filter p (drop at xs)
filter-parts p at xs = ap (filter p) (sym (take-append-drop at xs)) ∙ filter-append p (take at xs) (drop at xs)

-- a new place that is put before those from its piece on
pub filter-put : (piece at : ℕ) (new : Place) (xs : List Place)
    → at ≤ length xs → AllWithin (λ place. place.piece < new.piece) xs 0 at
    → filter (stands_at piece) (insert xs at new) ≡ (if new.piece == piece then new ∷ filter (stands_at piece) xs else filter (stands_at piece) xs)
filter-put piece at new xs bound before =
    filter-insert (stands_at piece) at new xs ∙ (elim (new.piece == piece) as (λ b. new.piece == piece ≡ b →
    filter (stands_at piece) (take at xs) ++ cond b (new ∷ filter (stands_at piece) (drop at xs)) (filter (stands_at piece) (drop at xs))
    ≡ cond b (new ∷ filter (stands_at piece) xs) (filter (stands_at piece) xs)) [
      | true ↦ λ same.
          let none : filter (stands_at piece) (take at xs) ≡ [] = filter-None (stands_at piece) (take at xs) (All-take_within (λ place. stands_at piece place ≡ false) xs at bound (λ k d a b. other (get_or xs k d) (before k d a b) same)) in
          rw none (ap (λ l. new ∷ l) (sym (filter-parts (stands_at piece) at xs ∙ rw none refl)))
      | false ↦ λ _. sym (filter-parts (stands_at piece) at xs)
    ] refl)
  where
    other : (place : Place) → place.piece < new.piece → new.piece == piece ≡ true → stands_at piece place ≡ false
    other place low same = grind (arith, nat_tests)

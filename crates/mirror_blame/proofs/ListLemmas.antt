-- Filters and counts of lists.
use Rattle.std.proofs.Common.{◌≡◌, ℕ, ◌+◌, ◌<◌, ◌≤◌, List, [], ◌∷◌, Bool, true, false, cond, length, take, drop, refl, sym, ◌∙◌, ap, subst, arith, zero-add}
use Rattle.std.specs.Prelude.{filter, count_by, All}
use Rattle.std.specs.List.{AllByRecursion, AllWithin}
use Rattle.std.proofs.lemmas.List.{get_or-take, get_or-drop, length-take, length-drop}
use Rattle.std.proofs.lemmas.List.Elements.{recursion_from_All}
use Rattle.std.proofs.lemmas.List.Sums.{sum_by-cons}
use Rattle.std.specs.Prelude.{◌&&◌}
use Rattle.std.proofs.lemmas.Bool.{both_ways}
use Rattle.std.proofs.lemmas.Bool.Decides.{nat_tests}

pub count_by-cons : {X : Type 0} (p : X → Bool) (x : X) (xs : List X) → count_by p (x ∷ xs) ≡ cond (p x) 1 0 + count_by p xs
count_by-cons p x xs = sum_by-cons (λ y. cond (p y) 1 0) x xs

-- a filter keeps all where all pass ..
filter_all : {X : Type 0} (p : X → Bool) (xs : List X) → AllByRecursion (λ x. p x ≡ true) xs → filter p xs ≡ xs
filter_all p [] h = refl
filter_all p (x ∷ xs) h = rw h.0 (ap (λ l. x ∷ l) (filter_all p xs h.1))

pub filter-All : {X : Type 0} (p : X → Bool) (xs : List X) → All (λ x. p x ≡ true) xs → filter p xs ≡ xs
filter-All p xs h = filter_all p xs (recursion_from_All (λ x. p x ≡ true) xs h)

-- .. and none where all fail
filter_none : {X : Type 0} (p : X → Bool) (xs : List X) → AllByRecursion (λ x. p x ≡ false) xs → filter p xs ≡ []
filter_none p [] h = refl
filter_none p (x ∷ xs) h = rw h.0 (filter_none p xs h.1)

pub filter-None : {X : Type 0} (p : X → Bool) (xs : List X) → All (λ x. p x ≡ false) xs → filter p xs ≡ []
filter-None p xs h = filter_none p xs (recursion_from_All (λ x. p x ≡ false) xs h)

-- what holds within some places holds of the part there
pub All-take_within : {X : Type 0} (P : X → Type 0) (xs : List X) (i : ℕ) → i ≤ length xs → AllWithin P xs 0 i → All P (take i xs)
All-take_within P xs i within h = λ k d low.
    let below : k < i = omega (arith, length-take i xs) in
    subst P (sym (get_or-take i xs k d below)) (h k d (omega arith) below)

pub All-drop_within : {X : Type 0} (P : X → Type 0) (xs : List X) (i : ℕ) → AllWithin P xs i (length xs) → All P (drop i xs)
All-drop_within P xs i h = λ k d low.
    let below : i + k < length xs = omega (arith, length-drop i xs) in
    subst P (sym (get_or-drop i xs k d)) (h (i + k) d (omega arith) below)

-- a count of a part that all that count are in
pub count_by-filter : {X : Type 0} (p q : X → Bool) → ((x : X) → p x ≡ true → q x ≡ true) → (xs : List X) → count_by p (filter q xs) ≡ count_by p xs
count_by-filter p q within [] = refl
count_by-filter p q within (x ∷ xs) =
    elim (q x) as (λ b. q x ≡ b → count_by p (cond b (x ∷ filter q xs) (filter q xs)) ≡ count_by p (x ∷ xs)) [
      | true ↦ λ e. count_by-cons p x (filter q xs) ∙ ap (λ n. cond (p x) 1 0 + n) (count_by-filter p q within xs) ∙ sym (count_by-cons p x xs)
      | false ↦ λ e. count_by-filter p q within xs ∙ (elim (p x) as (λ b. p x ≡ b → count_by p xs ≡ cond b 1 0 + count_by p xs) [
        | true ↦ λ passes. absurd (both_ways (q x) e (within x passes))
        | false ↦ λ fails. omega arith
      ] refl) ∙ sym (count_by-cons p x xs)
    ] refl

-- two tests that answer alike
pub filter_alike : {X : Type 0} (p q : X → Bool) → ((x : X) → p x ≡ q x) → (xs : List X) → filter p xs ≡ filter q xs
filter_alike p q alike [] = refl
filter_alike p q alike (x ∷ xs) = rw (alike x, filter_alike p q alike xs) refl

pub count_by_alike : {X : Type 0} (p q : X → Bool) → ((x : X) → p x ≡ q x) → (xs : List X) → count_by p xs ≡ count_by q xs
count_by_alike p q alike [] = refl
count_by_alike p q alike (x ∷ xs) =
    count_by-cons p x xs ∙ rw (alike x, count_by_alike p q alike xs) refl ∙ sym (count_by-cons q x xs)

-- a count of a part counts what passes both tests
pub count_by-filter_both : {X : Type 0} (p q : X → Bool) (xs : List X) → count_by p (filter q xs) ≡ count_by (λ x. p x && q x) xs
count_by-filter_both p q [] = refl
count_by-filter_both p q (x ∷ xs) =
    elim (q x) as (λ b. q x ≡ b → count_by p (cond b (x ∷ filter q xs) (filter q xs)) ≡ count_by (λ y. p y && q y) (x ∷ xs)) [
      | true ↦ λ e. count_by-cons p x (filter q xs) ∙ rw (count_by-filter_both p q xs) (ap (λ (b : Bool). cond b 1 0 + count_by (λ y. p y && q y) xs) (sym (and_yes (p x) (q x) e))) ∙ sym (count_by-cons (λ y. p y && q y) x xs)
      | false ↦ λ e. count_by-filter_both p q xs ∙ sym (zero-add (count_by (λ y. p y && q y) xs)) ∙ ap (λ (b : Bool). cond b 1 0 + count_by (λ y. p y && q y) xs) (sym (and_no (p x) (q x) e)) ∙ sym (count_by-cons (λ y. p y && q y) x xs)
    ] refl
  where
    and_yes : (a b : Bool) → b ≡ true → (a && b) ≡ a
    and_yes a b e = grind (arith, nat_tests)

    and_no : (a b : Bool) → b ≡ false → (a && b) ≡ false
    and_no a b e = grind (arith, nat_tests)

-- nothing passes
pub count_by_none : {X : Type 0} (p : X → Bool) → ((x : X) → p x ≡ false) → (xs : List X) → count_by p xs ≡ 0
count_by_none p fails [] = refl
count_by_none p fails (x ∷ xs) = count_by-cons p x xs ∙ rw (fails x) (zero-add (count_by p xs) ∙ count_by_none p fails xs)

-- two tests that answer alike for what is in the list
pub count_by_alike_within : {X : Type 0} (p q : X → Bool) (P : X → Type 0) → ((x : X) → P x → p x ≡ q x) → (xs : List X) → All P xs → count_by p xs ≡ count_by q xs
count_by_alike_within {X} p q P alike xs all = go xs (recursion_from_All P xs all)
  where
    go : (ys : List X) → AllByRecursion P ys → count_by p ys ≡ count_by q ys
    go [] h = refl
    go (x ∷ ys) h = count_by-cons p x ys ∙ rw (alike x h.0, go ys h.1) refl ∙ sym (count_by-cons q x ys)

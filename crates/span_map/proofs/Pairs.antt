-- What holds of each two elements of a list.
use Rattle.std.proofs.Common.{◌≡◌, ◌≢◌, ℕ, ◌<◌, ◌≤◌, List, length, map, get_or, set, arith, sym, subst, ap, [], ◌∷◌, ◌∙◌, refl, ⊎_elim, get_or-set_same, get_or-set_other, length-set}
use Rattle.std.specs.List.{AllPairs, All, swap}
use Rattle.std.specs.List.Sorted.{IsPermutation}
use Rattle.std.proofs.lemmas.List.{get_or-map, length-map}
use Rattle.std.proofs.lemmas.List.Edits.{swap_is}
use Rattle.std.proofs.lemmas.List.Sorted.{IsPermutation-keeps}
use Rattle.std.proofs.lemmas.Bool.{cases_lt, cases_eq}

-- at each two places that differ
abbrev Apart : {X : Type 0} → (X → X → Type 0) → List X → Type 0
Apart {X} R xs = (i j : ℕ) (d : X) → i ≢ j → i < length xs → j < length xs → R (get_or xs i d) (get_or xs j d)

apart_from_pairs : {X : Type 0} (R : X → X → Type 0) → ((x y : X) → R x y → R y x) → (xs : List X) → AllPairs R xs → Apart R xs
apart_from_pairs R turn xs pairs i j d differ here there =
    ⊎_elim (λ (below : i < j). pairs i j d below there) (λ (above : j ≤ i). turn _ _ (pairs j i d (omega arith) here)) (cases_lt i j)

pairs_from_apart : {X : Type 0} (R : X → X → Type 0) → (xs : List X) → Apart R xs → AllPairs R xs
pairs_from_apart R xs apart i j d below within = apart i j d (omega arith) (omega arith) within

-- where the element stood that a swap put at k
record Stood {X : Type 0} (xs : List X) (a b k : ℕ) : Type 0 where
  at : ℕ
  within : at < length xs
  is : (d : X) → get_or (swap xs a b) k d ≡ get_or xs at d
  second : k ≡ b → at ≡ a
  first : k ≢ b → k ≡ a → at ≡ b
  other : k ≢ b → k ≢ a → at ≡ k

stood : {X : Type 0} (xs : List X) (a b k : ℕ) → a < length xs → b < length xs → k < length xs → Stood xs a b k
stood {X} xs a b k first second within =
    let read : (d : X) → get_or (swap xs a b) k d ≡ get_or (set (set xs a (get_or xs b d)) b (get_or xs a d)) k d = λ d. ap (λ l. get_or l k d) (sym (swap_is xs a b d first second)) in
    ⊎_elim
    (λ (is : k ≡ b). record {
      at = a;
      within = first;
      is = λ d. read d ∙ subst (λ (n : ℕ). get_or (set (set xs a (get_or xs b d)) b (get_or xs a d)) n d ≡ get_or xs a d) (sym is) (get_or-set_same (set xs a (get_or xs b d)) b (get_or xs a d) d (rw length-set second));
      second = λ _. refl;
      first = λ no _. absurd (no is);
      other = λ no _. absurd (no is);
    })
    (λ (not_second : k ≡ b → ⊥). ⊎_elim
    (λ (is : k ≡ a). record {
      at = b;
      within = second;
      is = λ d. read d ∙ get_or-set_other (set xs a (get_or xs b d)) b k (get_or xs a d) d not_second ∙ subst (λ (n : ℕ). get_or (set xs a (get_or xs b d)) n d ≡ get_or xs b d) (sym is) (get_or-set_same xs a (get_or xs b d) d first);
      second = λ yes. absurd (not_second yes);
      first = λ _ _. refl;
      other = λ _ no. absurd (no is);
    })
    (λ (not_first : k ≡ a → ⊥). record {
      at = k;
      within = within;
      is = λ d. read d ∙ get_or-set_other (set xs a (get_or xs b d)) b k (get_or xs a d) d not_second ∙ get_or-set_other xs a k (get_or xs b d) d not_first;
      second = λ yes. absurd (not_second yes);
      first = λ _ yes. absurd (not_first yes);
      other = λ _ _. refl;
    })
    (cases_eq k a))
    (cases_eq k b)

length-swap : {X : Type 0} (xs : List X) (a b : ℕ) → length (swap xs a b) ≡ length xs
length-swap [] a b = refl
length-swap (x ∷ xs) a b = length-set (set (x ∷ xs) a (get_or (x ∷ xs) b x)) b (get_or (x ∷ xs) a x) ∙ length-set (x ∷ xs) a (get_or (x ∷ xs) b x)

still_differ : (a b i j m n : ℕ) → i ≢ j → (i ≡ b → m ≡ a) → (i ≢ b → i ≡ a → m ≡ b) → (i ≢ b → i ≢ a → m ≡ i) → (j ≡ b → n ≡ a) → (j ≢ b → j ≡ a → n ≡ b) → (j ≢ b → j ≢ a → n ≡ j) → m ≢ n
still_differ a b i j m n differ p q r s t u same = grind arith

Apart-swap : {X : Type 0} (R : X → X → Type 0) (xs : List X) (a b : ℕ) → a < length xs → b < length xs → Apart R xs → Apart R (swap xs a b)
Apart-swap R xs a b first second apart i j d differ here there =
    let long : length (swap xs a b) ≡ length xs = length-swap xs a b in
    let p : Stood xs a b i = stood xs a b i first second (omega (arith, here, long)) in
    let q : Stood xs a b j = stood xs a b j first second (omega (arith, there, long)) in
    subst (λ y. R (get_or (swap xs a b) i d) y) (sym (q.is d))
    (subst (λ x. R x (get_or xs q.at d)) (sym (p.is d))
    (apart p.at q.at d (still_differ a b i j p.at q.at differ p.second p.first p.other q.second q.first q.other) p.within q.within))

-- it holds of each two in any order of the elements
pub AllPairs-IsPermutation : {X : Type 0} (R : X → X → Type 0) → ((x y : X) → R x y → R y x) → (xs ys : List X) → IsPermutation xs ys → AllPairs R xs → AllPairs R ys
AllPairs-IsPermutation R turn xs ys moved pairs =
    pairs_from_apart R ys (IsPermutation-keeps xs (λ l. Apart R l) (apart_from_pairs R turn xs pairs) (λ l i j here there h. Apart-swap R l i j here there h) ys moved)

-- and of the images of the elements
pub AllPairs-map : {X Y : Type 0} (f : X → Y) (R : Y → Y → Type 0) (xs : List X) → AllPairs (λ a b. R (f a) (f b)) xs → AllPairs R (map f xs)
AllPairs-map f R [] pairs i j d below within = absurd (omega arith)
AllPairs-map f R (x ∷ xs) pairs i j d below within =
    let there : j < length (x ∷ xs) = omega (arith, within, length-map xs f) in
    subst (λ b. R (get_or (map f (x ∷ xs)) i d) b) (sym (get_or-map f (x ∷ xs) j x d there))
    (subst (λ a. R a (f (get_or (x ∷ xs) j x))) (sym (get_or-map f (x ∷ xs) i x d (omega arith))) (pairs i j x below there))

pub AllPairs-from_map : {X Y : Type 0} (f : X → Y) (R : Y → Y → Type 0) (xs : List X) → AllPairs R (map f xs) → AllPairs (λ a b. R (f a) (f b)) xs
AllPairs-from_map f R xs pairs i j d below within =
    let e = pairs i j (f d) below (omega (arith, within, length-map xs f)) in
    subst (λ b. R (f (get_or xs i d)) b) (get_or-map f xs j d (f d) within)
    (subst (λ a. R a (get_or (map f xs) j (f d))) (get_or-map f xs i d (f d) (omega arith)) e)

pub AllPairs-weaker : {X : Type 0} (P : X → Type 0) (R S : X → X → Type 0) → ((x y : X) → P x → P y → R x y → S x y) → (xs : List X) → All P xs → AllPairs R xs → AllPairs S xs
AllPairs-weaker P R S step xs all pairs i j d below within = step _ _ (all i d (omega arith)) (all j d within) (pairs i j d below within)

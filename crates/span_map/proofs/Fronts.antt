-- Paths that begin with others: in sorted lists they are neighbours.
use Rattle.std.proofs.Common.{◌≡◌, ℕ, ◌+◌, ◌<◌, ◌≤◌, List, [], ◌∷◌, length, get_or, arith, sym, subst, refl, inl, inr, ⊎_elim, Bool, not, true, false, ◌∙◌, zero, suc, Some, None}
use Rattle.std.specs.List.{AllPairs, AllAdjacentBelow, slice_get}
use Rattle.std.specs.List.Sorted.{IsSorted}
use Rattle.std.specs.Ordering.{is_lt}
use Rattle.std.specs.Str.{bytes_eq}
use Rattle.std.proofs.lemmas.Slice.Eq.{bytes_eq-Decides}
use Rattle.std.proofs.lemmas.List.Sorted.{sorted_far, ranks_by}
use Rattle.span_map.specs.Paths.{Begins, Clash}
use Rattle.span_map.specs.Order.{paths_cmp}
use Rattle.span_map.proofs.Order.{IsBefore, not_both, not_itself, upto_heads, paths_total}

-- ---- one element more

pub begins_more : {A : Type 0} (x y : A) (xs ys : List A) → x ≡ y → Begins xs ys → Begins (x ∷ xs) (y ∷ ys)
begins_more x y xs ys same begins = cc

pub begins_head : {A : Type 0} (x y : A) (xs ys : List A) → Begins (x ∷ xs) (y ∷ ys) → x ≡ y
begins_head x y xs ys begins = cc

pub begins_tail : {A : Type 0} (x y : A) (xs ys : List A) → Begins (x ∷ xs) (y ∷ ys) → Begins xs ys
begins_tail x y xs ys begins = cc

pub begins_nothing : {A : Type 0} (x : A) (xs : List A) → Begins (x ∷ xs) [] → ⊥
begins_nothing x xs begins = cc

-- ---- order

-- the first path doesn't come after the second
abbrev Upto : List (List ℕ) → List (List ℕ) → Type 0
Upto a b = is_lt (paths_cmp b a) ≡ false

-- what lies between a path and one that it begins, begins with it
between : (a b c : List (List ℕ)) → Upto a b → Upto b c → Begins a c → Begins a b
between [] b c low high begins = refl
between (x ∷ xs) [] c low high begins = absurd (let e : true ≡ false = low in cc)
between (x ∷ xs) (y ∷ ys) [] low high begins = absurd (begins_nothing x xs begins)
between (x ∷ xs) (y ∷ ys) (z ∷ zs) low high begins =
    let same : x ≡ z = begins_head x z xs zs begins in
    ⊎_elim
    (λ (less : IsBefore x y). ⊎_elim
    (λ (up : IsBefore y z). absurd (not_both x y less (subst (λ w. IsBefore y w) (sym same) up)))
    (λ (more : (y ≡ z) × Upto ys zs). absurd (not_itself x (subst (λ w. IsBefore x w) (more.0 ∙ sym same) less)))
    (upto_heads y z ys zs high))
    (λ (more : (x ≡ y) × Upto xs ys). ⊎_elim
    (λ (up : IsBefore y z). absurd (not_itself z (subst (λ w. IsBefore w z) (sym more.0 ∙ same) up)))
    (λ (next : (y ≡ z) × Upto ys zs). begins_more x y xs ys more.0 (between xs ys zs more.1 next.1 (begins_tail x z xs zs begins)))
    (upto_heads y z ys zs high))
    (upto_heads x y xs ys low)

-- a path that doesn't come after one that begins it is that one
same_front : (a b : List (List ℕ)) → Upto a b → Begins b a → Begins a b
same_front [] b upto begins = refl
same_front (x ∷ xs) [] upto begins = absurd (let e : true ≡ false = upto in cc)
same_front (x ∷ xs) (y ∷ ys) upto begins =
    let same : y ≡ x = begins_head y x ys xs begins in
    ⊎_elim
    (λ (less : IsBefore x y). absurd (not_itself x (subst (λ w. IsBefore x w) same less)))
    (λ (more : (x ≡ y) × Upto xs ys). begins_more x y xs ys more.0 (same_front xs ys more.1 (begins_tail y x ys xs begins)))
    (upto_heads x y xs ys upto)

-- the place after i is no later than j
after_below : (i j : ℕ) → i < j → i + 1 ≤ j
after_below i j below = omega arith

-- ---- in a sorted list no element begins another where none begins its neighbour

pub apart_from_neighbours : {X : Type 0} (f : X → List (List ℕ)) (xs : List X) → IsSorted (λ a b. paths_cmp (f a) (f b)) xs
    → AllAdjacentBelow (λ a b. Begins (f a) (f b) → ⊥) xs (length xs) → AllPairs (λ a b. Clash (f a) (f b) → ⊥) xs
apart_from_neighbours {X} f xs sorted apart i j d below within =
    let far : (a b : ℕ) → a ≤ b → b < length xs → Upto (f (get_or xs a d)) (f (get_or xs b d)) =
    λ a b upto there. sorted_far (λ x y. is_lt (paths_cmp (f x) (f y))) (ranks_by paths_total f) xs sorted a b d upto there in
    let next : Upto (f (get_or xs i d)) (f (get_or xs (i + 1) d)) = far i (i + 1) (omega arith) (omega arith) in
    let on : Upto (f (get_or xs (i + 1) d)) (f (get_or xs j d)) = far (i + 1) j (after_below i j below) within in
    let front : Begins (f (get_or xs i d)) (f (get_or xs j d)) → ⊥ =
    λ begins. apart i d (omega arith) (between (f (get_or xs i d)) (f (get_or xs (i + 1) d)) (f (get_or xs j d)) next on begins) in
    λ clash. ⊎_elim front
    (λ (begins : Begins (f (get_or xs j d)) (f (get_or xs i d))). front (same_front (f (get_or xs i d)) (f (get_or xs j d)) (far i j (omega arith) within) begins))
    clash

pub Clash-turn : {A : Type 0} (a b : List A) → Clash a b → Clash b a
Clash-turn a b (inl begins) = inr begins
Clash-turn a b (inr begins) = inl begins

-- a part of a path that begins another is the part of that at its place
pub same_at : (front path : List (List ℕ)) (n : ℕ) (x y : List ℕ) → Begins front path → slice_get front n ≡ Some x → slice_get path n ≡ Some y → x ≡ y
same_at [] path n x y begins at_front at_path = absurd (let e : None ≡ Some x = at_front in cc)
same_at (p ∷ ps) [] n x y begins at_front at_path = absurd (begins_nothing p ps begins)
same_at (p ∷ ps) (q ∷ qs) zero x y begins at_front at_path =
    let same = begins_head p q ps qs begins in
    let p_is : p ≡ x = (let e : Some p ≡ Some x = at_front in cc) in
    let q_is : q ≡ y = (let e : Some q ≡ Some y = at_path in cc) in
    sym p_is ∙ same ∙ q_is
same_at (p ∷ ps) (q ∷ qs) (suc n) x y begins at_front at_path = same_at ps qs n x y (begins_tail p q ps qs begins) at_front at_path

-- parts at one place that differ
pub differ_there : (front path : List (List ℕ)) (n : ℕ) (x y : List ℕ) → slice_get front n ≡ Some x → slice_get path n ≡ Some y
    → not (bytes_eq x y) ≡ true → Begins front path → ⊥
differ_there front path n x y at_front at_path test begins =
    let yes : bytes_eq x y ≡ true = (bytes_eq-Decides x y).1 (same_at front path n x y begins at_front at_path) in
    let no : not true ≡ true = subst (λ t. not t ≡ true) yes test in
    let e : false ≡ true = no in cc

not_not : (t : Bool) → not t ≡ false → t ≡ true
not_not true test = refl
not_not false test = absurd (let e : true ≡ false = test in cc)

pub same_tested : (x y : List ℕ) → not (bytes_eq x y) ≡ false → y ≡ x
same_tested x y test = sym ((bytes_eq-Decides x y).0 (not_not (bytes_eq x y) test))

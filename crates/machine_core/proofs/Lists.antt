-- Elements of lists by their places.
use Rattle.std.proofs.Common.{◌≡◌, ◌≢◌, ◌⊎◌, ℕ, zero, suc, ◌<◌, ◌≤◌, List, [], ◌∷◌, ◌++◌, length, set, Option, Some, None, slice_get, Bool, true, false, cond, refl, sym, ap, ◌∙◌, inl, inr, ⊎_elim, arith}
use Rattle.std.specs.Prelude.{Contains, filter, find}
use Rattle.std.specs.List.{position_or_len}
use Rattle.std.specs.Option.{option_and_then}
use Rattle.std.proofs.lemmas.List.Folds.{find_at}
use Rattle.std.proofs.lemmas.List.Sums.{passes_at_first, fails_before_first}
use Rattle.std.proofs.lemmas.Option.{slice_get_within, get_or_from_slice_get}

pub slice_get-set_same : {A : Type 0} (xs : List A) (i : ℕ) (v : A) → i < length xs → slice_get (set xs i v) i ≡ Some v
slice_get-set_same [] i v within = absurd (omega arith)
slice_get-set_same (x ∷ xs) zero v within = refl
slice_get-set_same (x ∷ xs) (suc i) v within = slice_get-set_same xs i v (omega arith)

pub slice_get-set_other : {A : Type 0} (xs : List A) (i k : ℕ) (v : A) → k ≢ i
    → slice_get (set xs i v) k ≡ slice_get xs k
slice_get-set_other [] i k v apart = refl
slice_get-set_other (x ∷ xs) zero zero v apart = absurd (apart refl)
slice_get-set_other (x ∷ xs) zero (suc k) v apart = refl
slice_get-set_other (x ∷ xs) (suc i) zero v apart = refl
slice_get-set_other (x ∷ xs) (suc i) (suc k) v apart = slice_get-set_other xs i k v (λ is. apart (ap suc is))

pub element_at : {A : Type 0} (xs : List A) (k : ℕ) → k < length xs → (x : A) × (slice_get xs k ≡ Some x)
element_at [] k within = absurd (omega arith)
element_at (x ∷ xs) zero within = (x, refl)
element_at (x ∷ xs) (suc k) within = element_at xs k (omega arith)

-- what stands in a list stands there once more comes behind
pub slice_get-more : {A : Type 0} (xs ys : List A) (k : ℕ) (x : A) → slice_get xs k ≡ Some x
    → slice_get (xs ++ ys) k ≡ Some x
slice_get-more [] ys k x is = absurd cc
slice_get-more (y ∷ xs) ys zero x is = is
slice_get-more (y ∷ xs) ys (suc k) x is = slice_get-more xs ys k x is

-- a test of what is read at a place holds once more comes behind
pub read-more : {A B : Type 0} (f : A → Option B) (xs ys : List A) (k : ℕ) (b : B)
    → option_and_then f (slice_get xs k) ≡ Some b → option_and_then f (slice_get (xs ++ ys) k) ≡ Some b
read-more f [] ys k b is = absurd cc
read-more f (y ∷ xs) ys zero b is = is
read-more f (y ∷ xs) ys (suc k) b is = read-more f xs ys k b is

-- ---- the first that passes a test

pub record IsFound {A : Type 0} (p : A → Bool) (xs : List A) (x : A) : Type 0 where
  pub there : Contains xs x
  pub passes : p x ≡ true

pub found : {A : Type 0} (p : A → Bool) (xs : List A) (x : A) → find p xs ≡ Some x → IsFound p xs x
found p xs x is =
    let at : slice_get xs (position_or_len p xs) ≡ Some x = sym (find_at p xs) ∙ is in
    let within = slice_get_within xs (position_or_len p xs) x at in
    let read = get_or_from_slice_get xs (position_or_len p xs) x x at in
    record {
      there = (position_or_len p xs, within, read);
      passes = ap p (sym read) ∙ passes_at_first p xs x within;
    }

none_at : {A : Type 0} (xs : List A) (n : ℕ) → slice_get xs n ≡ None → length xs ≤ n
none_at [] n is = omega arith
none_at (x ∷ xs) zero is = absurd cc
none_at (x ∷ xs) (suc n) is = let rest = none_at xs n is in omega arith

pub not_found : {A : Type 0} (p : A → Bool) (xs : List A) (x : A) → find p xs ≡ None → Contains xs x
    → p x ≡ false
not_found p xs x is there =
    let past = none_at xs (position_or_len p xs) (sym (find_at p xs) ∙ is) in
    ap p (sym there.2)
    ∙ fails_before_first p xs there.0 x (let w = there.1 in omega arith)

find_cases : {A : Type 0} (p : A → Bool) (xs : List A) (x : A) → Contains xs x → p x ≡ true
    → ((y : A) → Contains xs y → p y ≡ true → y ≡ x) → (o : Option A) → find p xs ≡ o → o ≡ Some x
find_cases p xs x there passes one None is = absurd (let f = not_found p xs x is there in cc)
find_cases p xs x there passes one (Some y) is =
    let f = found p xs y is in ap Some (one y f.there f.passes)

-- the only one that passes
pub find_one : {A : Type 0} (p : A → Bool) (xs : List A) (x : A) → Contains xs x → p x ≡ true
    → ((y : A) → Contains xs y → p y ≡ true → y ≡ x) → find p xs ≡ Some x
find_one p xs x there passes one = find_cases p xs x there passes one (find p xs) refl

-- two tests that agree find the same
find_step : {A : Type 0} (p q : A → Bool) (x : A) (xs : List A) → p x ≡ q x → find p xs ≡ find q xs
    → cond (p x) (Some x) (find p xs) ≡ cond (q x) (Some x) (find q xs)
find_step p q x xs same rest = rw (same, rest) refl

pub find_same : {A : Type 0} (p q : A → Bool) (xs : List A) → ((x : A) → p x ≡ q x) → find p xs ≡ find q xs
find_same p q [] same = refl
find_same p q (x ∷ xs) same = find_step p q x xs (same x) (find_same p q xs same)

-- ---- what a filter keeps

pub front : {A : Type 0} (y : A) (ys : List A) (x : A) → y ≡ x → Contains (y ∷ ys) x
front y ys x is = (0, omega arith, is)

pub behind : {A : Type 0} (y : A) (ys : List A) (x : A) → Contains ys x → Contains (y ∷ ys) x
behind y ys x there = (suc there.0, (let w = there.1 in omega arith), there.2)

pub contains_cases : {A : Type 0} (y : A) (ys : List A) (x : A) → Contains (y ∷ ys) x → (y ≡ x) ⊎ Contains ys x
contains_cases y ys x (zero, within, is) = inl is
contains_cases y ys x (suc k, within, is) = inr (k, omega arith, is)

kept : {A : Type 0} (p : A → Bool) (y : A) (ys : List A) (x : A) (t : Bool)
    → (Contains (filter p ys) x → Contains ys x) → Contains (cond t (y ∷ filter p ys) (filter p ys)) x
    → Contains (y ∷ ys) x
kept p y ys x true rest there =
    ⊎_elim (λ (is : y ≡ x). front y ys x is) (λ (more : Contains (filter p ys) x). behind y ys x (rest more))
    (contains_cases y (filter p ys) x there)
kept p y ys x false rest there = behind y ys x (rest there)

pub contains_filter : {A : Type 0} (p : A → Bool) (xs : List A) (x : A) → Contains (filter p xs) x → Contains xs x
contains_filter p [] x there = there
contains_filter p (y ∷ ys) x there = kept p y ys x (p y) (contains_filter p ys x) there

-- Counts of elements that pass a test, class by class.
use Rattle.std.proofs.Common.{◌≡◌, ◌⊎◌, ℕ, zero, suc, ◌+◌, ◌*◌, ◌<◌, ◌≤◌, Bool, true, false, cond, eqb, ltb, List, [], ◌∷◌, length, refl, ap, ◌∙◌, inl, inr, ⊎_elim, arith}
use Rattle.std.specs.Prelude.{◌&&◌, count_by}
use Rattle.std.proofs.lemmas.Bool.{cases_order, lt-ltb, le-ltb, eq-eqb, ne_eqb}
use Rattle.std.proofs.lemmas.List.Sums.{sum_by-cons}
use Rattle.dl_history.proofs.Members.{Has}

-- how many pass
abbrev pub tally : {A : Type 0} → (A → Bool) → List A → ℕ
tally p [] = 0
tally p (x ∷ xs) = cond (p x) (suc (tally p xs)) (tally p xs)

count_cases : (t : Bool) (n m : ℕ) → n ≡ m → cond t 1 0 + n ≡ cond t (suc m) m
count_cases true n m same = omega (arith, same)
count_cases false n m same = omega (arith, same)

pub counted_so : {A : Type 0} (p : A → Bool) (xs : List A) → count_by p xs ≡ tally p xs
counted_so p [] = refl
counted_so p (x ∷ xs) =
    sum_by-cons (λ y. cond (p y) 1 0) x xs ∙ count_cases (p x) (count_by p xs) (tally p xs) (counted_so p xs)

more_cases : (t u : Bool) (n m : ℕ) → (t ≡ true → u ≡ true) → n ≤ m → cond t (suc n) n ≤ cond u (suc m) m
more_cases true true n m more le = omega arith
more_cases true false n m more le = absurd (let e = more refl in cc)
more_cases false true n m more le = omega arith
more_cases false false n m more le = le

-- the weaker test passes more
pub tally_more : {A : Type 0} (p q : A → Bool) (xs : List A) → ((x : A) → Has xs x → p x ≡ true → q x ≡ true)
    → tally p xs ≤ tally q xs
tally_more p q [] more = omega arith
tally_more p q (x ∷ xs) more =
    more_cases (p x) (q x) (tally p xs) (tally q xs) (more x (inl refl))
    (tally_more p q xs (λ y has. more y (inr has)))

all_cases : (t : Bool) (n m : ℕ) → t ≡ true → n ≡ m → cond t (suc n) n ≡ suc m
all_cases true n m is same = omega arith
all_cases false n m is same = absurd cc

-- all pass
pub tally_all : {A : Type 0} (p : A → Bool) (xs : List A) → ((x : A) → Has xs x → p x ≡ true)
    → tally p xs ≡ length xs
tally_all p [] all = refl
tally_all p (x ∷ xs) all =
    all_cases (p x) (tally p xs) (length xs) (all x (inl refl)) (tally_all p xs (λ y has. all y (inr has)))

-- none passes
none_cases : (t : Bool) (n : ℕ) → t ≡ false → n ≡ 0 → cond t (suc n) n ≡ 0
none_cases true n is same = absurd cc
none_cases false n is same = same

pub tally_none : {A : Type 0} (p : A → Bool) (xs : List A) → ((x : A) → Has xs x → p x ≡ false) → tally p xs ≡ 0
tally_none p [] none = refl
tally_none p (x ∷ xs) none =
    none_cases (p x) (tally p xs) (none x (inl refl)) (tally_none p xs (λ y has. none y (inr has)))

-- ---- classes

-- those of one class, and of a class below a number
abbrev pub in_class : {A : Type 0} → (A → ℕ) → (A → Bool) → ℕ → A → Bool
in_class f q n x = eqb (f x) n && q x

abbrev pub is_below : {A : Type 0} → (A → ℕ) → (A → Bool) → ℕ → A → Bool
is_below f q n x = ltb (f x) n && q x

-- how a class stands to a number: at most one of both tests passes
abbrev Stands : (s l e : Bool) → Type 0
Stands s l e = ((s ≡ true) × (l ≡ true) × (e ≡ false)) ⊎ ((s ≡ true) × (l ≡ false) × (e ≡ true))
    ⊎ ((s ≡ false) × (l ≡ false) × (e ≡ false))

stands_where : (k n : ℕ) → Stands (ltb k (suc n)) (ltb k n) (eqb k n)
stands_where k n =
    ⊎_elim
    (λ (is : k ≡ n). inr (inl (lt-ltb k (suc n) (omega arith), le-ltb k n (omega arith), eq-eqb k n is)))
    (λ (apart : (k < n) ⊎ (n < k)).
    ⊎_elim
    (λ (less : k < n). inl (lt-ltb k (suc n) (omega arith), lt-ltb k n less, ne_eqb k n (λ e. absurd (omega arith))))
    (λ (more : n < k). inr (inr
    (le-ltb k (suc n) (omega arith), le-ltb k n (omega arith), ne_eqb k n (λ e. absurd (omega arith)))))
    apart)
    (cases_order k n)

split_cases : (s l e q : Bool) (ns nl ne : ℕ) → Stands s l e → ns ≡ nl + ne
    → cond (s && q) (suc ns) ns ≡ cond (l && q) (suc nl) nl + cond (e && q) (suc ne) ne
split_cases s l e true ns nl ne (inl h) same = rw (h.0, h.1, h.2) (omega arith)
split_cases s l e false ns nl ne (inl h) same = rw (h.0, h.1, h.2) (omega arith)
split_cases s l e true ns nl ne (inr (inl h)) same = rw (h.0, h.1, h.2) (omega arith)
split_cases s l e false ns nl ne (inr (inl h)) same = rw (h.0, h.1, h.2) (omega arith)
split_cases s l e q ns nl ne (inr (inr h)) same = rw (h.0, h.1, h.2) same

one_class_more : {A : Type 0} (f : A → ℕ) (q : A → Bool) (n : ℕ) (xs : List A)
    → tally (is_below f q (suc n)) xs ≡ tally (is_below f q n) xs + tally (in_class f q n) xs
one_class_more f q n [] = refl
one_class_more f q n (x ∷ xs) =
    split_cases (ltb (f x) (suc n)) (ltb (f x) n) (eqb (f x) n) (q x) (tally (is_below f q (suc n)) xs)
    (tally (is_below f q n) xs) (tally (in_class f q n) xs) (stands_where (f x) n) (one_class_more f q n xs)

none_below : (k : ℕ) (q : Bool) → (ltb k 0 && q) ≡ false
none_below k q = ap (λ (t : Bool). t && q) (le-ltb k 0 (omega arith))

classes_below : {A : Type 0} (f : A → ℕ) (q : A → Bool) (most : ℕ) (xs : List A) (n : ℕ)
    → ((k : ℕ) → k < n → tally (in_class f q k) xs ≤ most) → tally (is_below f q n) xs ≤ n * most
classes_below f q most xs zero few = let e = tally_none (is_below f q 0) xs (λ x has. none_below (f x) (q x)) in
    omega arith
classes_below f q most xs (suc n) few =
    let e = one_class_more f q n xs in
    let here = few n (omega arith) in
    let rest = classes_below f q most xs n (λ k below. few k (omega arith)) in
    omega arith

-- so many classes with so few each
pub few_in_all : {A : Type 0} (f : A → ℕ) (q : A → Bool) (n most : ℕ) (xs : List A)
    → ((x : A) → Has xs x → q x ≡ true → f x < n)
    → ((k : ℕ) → k < n → tally (in_class f q k) xs ≤ most) → tally q xs ≤ n * most
few_in_all f q n most xs within few =
    let more = tally_more q (is_below f q n) xs
    (λ x has is. rw (lt-ltb (f x) n (within x has is), is) refl) in
    let below = classes_below f q most xs n few in
    omega arith

and_first : (t : Bool) → (t && true) ≡ true → t ≡ true
and_first true is = refl
and_first false is = is

-- .. of a whole list
pub few_long : {A : Type 0} (f : A → ℕ) (n most : ℕ) (xs : List A) → ((x : A) → Has xs x → f x < n)
    → ((k : ℕ) → k < n → tally (λ x. eqb (f x) k) xs ≤ most) → length xs ≤ n * most
few_long f n most xs within few =
    let all = tally_all (λ x. true) xs (λ x has. refl) in
    let bound = few_in_all f (λ x. true) n most xs (λ x has is. within x has)
    (λ k below. let more = tally_more (in_class f (λ x. true) k) (λ x. eqb (f x) k) xs
    (λ x has is. and_first (eqb (f x) k) is) in let here = few k below in omega arith) in
    omega arith

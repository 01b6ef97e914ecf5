-- Elements of lists, and what a filter keeps of them.
use Rattle.std.proofs.Common.{◌≡◌, ◌⊎◌, ℕ, zero, suc, ◌<◌, Bool, true, false, cond, Option, Some, None, List, [], ◌∷◌, length, get_or, refl, sym, ap, ◌∙◌, inl, inr, arith}
use Rattle.std.specs.Prelude.{◌&&◌, ◌||◌, filter, find, All}
use Rattle.std.specs.Option.{is_some}
use Rattle.std.specs.List.{list_any}
use Rattle.dl_history.proofs.Bools.{or_left, or_right, true_not_false}
use Rattle.std.proofs.lemmas.List.Elements.{All-head, All-tail}

abbrev pub Has : {A : Type 0} → List A → A → Type 0
Has [] g = ⊥
Has (x ∷ xs) g = (x ≡ g) ⊎ Has xs g

pub has_from : {A : Type 0} (xs : List A) (x : A) (k : ℕ) → k < length xs → get_or xs k x ≡ x → Has xs x
has_from [] x k within is = absurd (omega arith)
has_from (y ∷ ys) x zero within is = inl is
has_from (y ∷ ys) x (suc k) within is = inr (has_from ys x k (omega arith) is)

pub has_all : {A : Type 0} (P : A → Type 0) (xs : List A) (x : A) → All P xs → Has xs x → P x
has_all P [] x all h = absurd h
has_all P (y ∷ ys) x all (inl is) = Rattle.std.proofs.Common.subst P is (All-head P y ys all)
has_all P (y ∷ ys) x all (inr h) = has_all P ys x (All-tail P y ys all) h

filter_cases : {A : Type 0} (p : A → Bool) (y : A) (ys : List A) (x : A) (b : Bool) → p y ≡ b
    → (Has (filter p ys) x → Has ys x × (p x ≡ true))
    → Has (cond b (y ∷ filter p ys) (filter p ys)) x → ((y ≡ x) ⊎ Has ys x) × (p x ≡ true)
filter_cases p y ys x true is rest (inl same) = (inl same, ap p (sym same) ∙ is)
filter_cases p y ys x true is rest (inr h) = (inr (rest h).0, (rest h).1)
filter_cases p y ys x false is rest h = (inr (rest h).0, (rest h).1)

pub has_filter : {A : Type 0} (p : A → Bool) (xs : List A) (x : A) → Has (filter p xs) x → Has xs x × (p x ≡ true)
has_filter p [] x h = absurd h
has_filter p (y ∷ ys) x h = filter_cases p y ys x (p y) refl (has_filter p ys x) h

filters-cons : {A : Type 0} (p q r : A → Bool) (y : A) (ys : List A) (a b : Bool) → q y ≡ a → p y ≡ b
    → (q y && p y) ≡ r y
    → filter p (filter q ys) ≡ filter r ys → filter p (cond a (y ∷ filter q ys) (filter q ys)) ≡ cond (r y)
    (y ∷ filter r ys) (filter r ys)
filters-cons p q r y ys true true qa pb same rest = rw (← same, qa, pb) (ap (λ xs. y ∷ xs) rest)
filters-cons p q r y ys true false qa pb same rest = rw (← same, qa, pb) rest
filters-cons p q r y ys false b qa pb same rest = rw (← same, qa) rest

-- a filter of a filter, by what the elements of the list pass
pub filters : {A : Type 0} (p q r : A → Bool) (xs : List A) → ((x : A) → Has xs x → (q x && p x) ≡ r x)
    → filter p (filter q xs) ≡ filter r xs
filters p q r [] same = refl
filters p q r (y ∷ ys) same = filters-cons p q r y ys (q y) (p y) refl refl (same y (inl refl))
    (filters p q r ys (λ x h. same x (inr h)))

-- the first that passes, where two tests agree
find_cases : (p q : ℕ → Bool) (y : ℕ) (ys : List ℕ) (b : Bool) → p y ≡ b → p y ≡ q y → find p ys ≡ find q ys
    → cond (p y) (Some y) (find p ys) ≡ cond (q y) (Some y) (find q ys)
find_cases p q y ys b is same rest = rw (same, rest) refl

pub find_same : (p q : ℕ → Bool) (xs : List ℕ) → ((x : ℕ) → p x ≡ q x) → find p xs ≡ find q xs
find_same p q [] same = refl
find_same p q (y ∷ ys) same = find_cases p q y ys (p y) refl (same y) (find_same p q ys same)

some_cases : (p q : ℕ → Bool) (y : ℕ) (ys : List ℕ) (a b : Bool) → p y ≡ a → q y ≡ b
    → ((x : ℕ) → p x ≡ true → q x ≡ true) → (is_some (find p ys) ≡ true → is_some (find q ys) ≡ true)
    → is_some (cond a (Some y) (find p ys)) ≡ true → is_some (cond b (Some y) (find q ys)) ≡ true
some_cases p q y ys a true pa qb more rest h = refl
some_cases p q y ys true false pa qb more rest h = absurd (let t = more y pa in cc)
some_cases p q y ys false false pa qb more rest h = rest h

-- if one passes the stricter test, one passes the weaker one
pub find_more : (p q : ℕ → Bool) (xs : List ℕ) → ((x : ℕ) → p x ≡ true → q x ≡ true) → is_some (find p xs) ≡ true
    → is_some (find q xs) ≡ true
find_more p q [] more h = h
find_more p q (y ∷ ys) more h = some_cases p q y ys (p y) (q y) refl refl more (find_more p q ys more) h

any_cases : {A : Type 0} (p : A → Bool) (y : A) (ys : List A) (b : Bool) → p y ≡ b
    → (list_any p ys ≡ true → (x : A) × Has ys x × (p x ≡ true))
    → (b || list_any p ys) ≡ true → (x : A) × ((y ≡ x) ⊎ Has ys x) × (p x ≡ true)
any_cases p y ys true is rest h = (y, inl refl, is)
any_cases p y ys false is rest h = let r = rest h in (r.0, inr r.1, r.2)

pub any_has : {A : Type 0} (p : A → Bool) (xs : List A) → list_any p xs ≡ true → (x : A) × Has xs x × (p x ≡ true)
any_has p [] h = absurd cc
any_has p (y ∷ ys) h = any_cases p y ys (p y) refl (any_has p ys) h

pub has_any : {A : Type 0} (p : A → Bool) (xs : List A) (x : A) → Has xs x → p x ≡ true → list_any p xs ≡ true
has_any p [] x h is = absurd h
has_any p (y ∷ ys) x (inl same) is = or_left (p y) (list_any p ys) (ap p same ∙ is)
has_any p (y ∷ ys) x (inr h) is = or_right (p y) (list_any p ys) (has_any p ys x h is)

in_cases : {A : Type 0} (p : A → Bool) (y : A) (ys : List A) (x : A) (b : Bool) → p y ≡ b → p x ≡ true
    → (Has ys x → Has (filter p ys) x)
    → (y ≡ x) ⊎ Has ys x → Has (cond b (y ∷ filter p ys) (filter p ys)) x
in_cases p y ys x true is px rest (inl same) = inl same
in_cases p y ys x true is px rest (inr h) = inr (rest h)
in_cases p y ys x false is px rest (inl same) = true_not_false (p y) (ap p same ∙ px) is
in_cases p y ys x false is px rest (inr h) = rest h

pub in_filter : {A : Type 0} (p : A → Bool) (xs : List A) (x : A) → Has xs x → p x ≡ true → Has (filter p xs) x
in_filter p [] x h is = absurd h
in_filter p (y ∷ ys) x h is = in_cases p y ys x (p y) refl is (λ h'. in_filter p ys x h' is) h

-- The files that are selected, by which of them are named.
use Rattle.std.proofs.Common.{◌≡◌, ◌∙◌, ◌+◌, ◌||◌, ℕ, Bool, true, false, not, List, [], ◌∷◌, zero, suc, ap, sym, refl, map, replicate}
use Rattle.std.specs.List.{list_any, range_with_len}
use Rattle.std.proofs.lemmas.Bool.{or_right}

map_agrees : {X : Type 0} (f g : ℕ → X) → ((n : ℕ) → f n ≡ g n) → (xs : List ℕ) → map f xs ≡ map g xs
map_agrees f g h [] = refl
map_agrees f g h (x ∷ xs) = ap (λ y. y ∷ map f xs) (h x) ∙ ap (λ ys. g x ∷ ys) (map_agrees f g h xs)

any_flag : (f : ℕ → Bool) (xs : List ℕ) → list_any (λ flag. flag) (map f xs) ≡ list_any f xs
any_flag f [] = refl
any_flag f (x ∷ xs) = ap (λ b. f x || b) (any_flag f xs)

or_false : (b : Bool) → b ≡ (b || false)
or_false true = refl
or_false false = refl

pub all_true : (a n : ℕ) → replicate n true ≡ map (λ _. true) (range_with_len a n)
all_true a zero = refl
all_true a (suc n) = ap (λ ys. true ∷ ys) (all_true (a + 1) n)

-- the named files are selected, where there are some
pub named_selected : (f : ℕ → Bool) (xs : List ℕ) (flags : List Bool) → flags ≡ map f xs
    → list_any (λ flag. flag) flags ≡ true → flags ≡ map (λ n. f n || not (list_any f xs)) xs
named_selected f xs flags is some =
    let any : list_any f xs ≡ true = sym (any_flag f xs) ∙ (ap (list_any (λ (flag : Bool). flag)) (sym is) ∙ some) in
    is ∙ map_agrees f (λ n. f n || not (list_any f xs)) (λ n. or_false (f n) ∙ ap (λ b. f n || not b) (sym any)) xs

-- .. and all of them, where there is none
pub all_selected : (f : ℕ → Bool) (a n : ℕ) → list_any f (range_with_len a n) ≡ false
    → replicate n true ≡ map (λ k. f k || not (list_any f (range_with_len a n))) (range_with_len a n)
all_selected f a n none =
    all_true a n
    ∙ map_agrees (λ _. true) (λ k. f k || not (list_any f (range_with_len a n)))
    (λ k. sym (ap (λ b. f k || not b) none ∙ or_right (f k) true refl)) (range_with_len a n)

pub none_named : (xs : List ℕ) → list_any (λ _. false) xs ≡ false
none_named [] = refl
none_named (x ∷ xs) = none_named xs

pub none_flagged : (f : ℕ → Bool) (xs : List ℕ) (flags : List Bool) → flags ≡ map f xs
    → list_any (λ flag. flag) flags ≡ false → list_any f xs ≡ false
none_flagged f xs flags is none = sym (any_flag f xs) ∙ (ap (list_any (λ (flag : Bool). flag)) (sym is) ∙ none)

-- How many places are true.
use Rattle.std.proofs.Common.{◌≡◌, ℕ, ◌+◌, ◌-◌, ◌<◌, ◌≤◌, Bool, true, false, cond, List, [], ◌∷◌, length, get_or, set, replicate, drop, Some, slice_get, refl, ap, ◌∙◌, arith, count_by}
use Rattle.std.specs.Prelude.{All}
use Rattle.std.proofs.lemmas.List.{length-drop, get_or-drop}
use Rattle.std.proofs.lemmas.Option.{slice_get_within, get_or_from_slice_get}
use Rattle.dl_kinds.specs.Lists.{part_at}
use Rattle.std.proofs.lemmas.List.Elements.{All-nil, All-cons, All-head, All-tail}
use Rattle.std.proofs.lemmas.List.Folds.{sum_by-replicate}
use Rattle.std.proofs.lemmas.List.Sums.{sum_by-cons, sum_by-set, sum_by_more, count_by-le-length}

abbrev pub count_of : List Bool → ℕ
count_of xs = count_by (λ is. is) xs

abbrev pub one : Bool → ℕ
one is = cond is 1 0

pub count-cons : (x : Bool) (xs : List Bool) → count_of (x ∷ xs) ≡ cond x 1 0 + count_of xs
count-cons x xs = sum_by-cons one x xs

pub count-le : (xs : List Bool) → count_of xs ≤ length xs
count-le xs = count_by-le-length (λ is. is) xs

pub count-none : (n : ℕ) → count_of (replicate n false) ≡ 0
count-none n = let e = sum_by-replicate one n false in omega (arith, e)

pub count-set_true : (xs : List Bool) (i : ℕ) → i < length xs → get_or xs i false ≡ false → count_of (set xs i true) ≡ count_of xs + 1
count-set_true xs i within was = let zero_at : one (get_or xs i false) ≡ 0 = ap one was in omega (arith, sum_by-set one xs i true false within, zero_at)

pub count-set_le : (xs : List Bool) (i : ℕ) → i < length xs → count_of xs ≤ count_of (set xs i true)
count-set_le xs i within = let most = small (get_or xs i false) in omega (arith, sum_by-set one xs i true false within)
  where
    small : (is : Bool) → one is ≤ 1
    small true = omega arith
    small false = omega arith

-- ---- all of them, and none

pub all_true : (xs : List Bool) → count_of xs ≡ length xs → All (λ is. is ≡ true) xs
all_true [] full = All-nil (λ is. is ≡ true)
all_true (true ∷ xs) full = All-cons (λ is. is ≡ true) true xs refl (all_true xs (omega (arith, count-cons true xs)))
all_true (false ∷ xs) full = absurd (omega (arith, count-cons false xs, count-le xs))

pub count_all : (xs : List Bool) → All (λ is. is ≡ true) xs → count_of xs ≡ length xs
count_all [] all = refl
count_all (x ∷ xs) all =
    count-cons x xs ∙ ap (λ is. cond is 1 0 + count_of xs) (All-head (λ is. is ≡ true) x xs all)
    ∙ omega (arith, count_all xs (All-tail (λ is. is ≡ true) x xs all))

pub all_false : (xs : List Bool) → count_of xs ≡ 0 → All (λ is. is ≡ false) xs
all_false [] none = All-nil (λ is. is ≡ false)
all_false (true ∷ xs) none = absurd (omega (arith, count-cons true xs))
all_false (false ∷ xs) none = All-cons (λ is. is ≡ false) false xs refl (all_false xs (omega (arith, count-cons false xs)))

pub count_bare : (xs : List Bool) → All (λ is. is ≡ false) xs → count_of xs ≡ 0
count_bare [] all = refl
count_bare (x ∷ xs) all =
    count-cons x xs ∙ ap (λ is. cond is 1 0 + count_of xs) (All-head (λ is. is ≡ false) x xs all)
    ∙ omega (arith, count_bare xs (All-tail (λ is. is ≡ false) x xs all))

-- ---- a loop over places

pub count-part_more : (xs : List Bool) (at i : ℕ) (v : Bool) → at ≤ i → slice_get xs i ≡ Some v
    → count_of (part_at xs at (i + 1 - at)) ≡ count_of (part_at xs at (i - at)) + one v
count-part_more xs at i v from is =
    let next : i + 1 - at ≡ i - at + 1 = omega arith in
    let place : at + (i - at) ≡ i = omega arith in
    let within : i < length xs = slice_get_within xs i v is in
    let inside : i - at < length (drop at xs) = omega (arith, length-drop at xs) in
    let value : get_or (drop at xs) (i - at) false ≡ v = get_or-drop at xs (i - at) false ∙ ap (λ n. get_or xs n false) place ∙ get_or_from_slice_get xs i v false is in
    ap (λ n. count_of (part_at xs at n)) next ∙ sum_by_more one (drop at xs) (i - at) false inside ∙ ap (λ b. count_of (part_at xs at (i - at)) + one b) value

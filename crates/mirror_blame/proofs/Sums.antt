-- Counts by a key, added up.
use Rattle.std.proofs.Common.{◌≡◌, ℕ, ◌+◌, ◌*◌, ◌<◌, ◌≤◌, zero, suc, List, [], ◌∷◌, Bool, false, cond, refl, subst, inl, inr, arith}
use Rattle.std.specs.Prelude.{count_by, nat_lt, ◌==◌, ◌&&◌}
use Rattle.std.proofs.lemmas.Bool.{cases_eq}
use Rattle.std.proofs.lemmas.Bool.Decides.{nat_tests}
use Rattle.mirror_blame.proofs.ListLemmas.{count_by-cons, count_by_none}

-- f 0 + f 1 + .. up to before n
pub record IsSum (total f : ℕ → ℕ) : Type 0 where
  pub none : total 0 ≡ 0
  pub more : (n : ℕ) → total (suc n) ≡ total n + f n

pub sum-le : (total f : ℕ → ℕ) (most : ℕ) → IsSum total f → ((k : ℕ) → f k ≤ most) → (n : ℕ) → total n ≤ n * most
sum-le total f most is few zero = omega (arith, is.none)
sum-le total f most is few (suc n) = let before = sum-le total f most is few n in let here = few n in let e = is.more n in grind arith

pub sum-ge : (total f : ℕ → ℕ) (least : ℕ) → IsSum total f → (n : ℕ) → ((k : ℕ) → k < n → least ≤ f k) → n * least ≤ total n
sum-ge total f least is zero many = omega (arith, is.none)
sum-ge total f least is (suc n) many =
    let before = sum-ge total f least is n (λ k below. many k (omega arith)) in let here = many n (omega arith) in let e = is.more n in grind arith

pub sum-lt : (total f : ℕ → ℕ) (most : ℕ) → IsSum total f → ((k : ℕ) → f k ≤ most) → (n k : ℕ) → k < n → f k < most → total n < n * most
sum-lt total f most is few zero k below less = absurd (omega arith)
sum-lt total f most is few (suc n) k below less =
    let e = is.more n in
    let here = few n in
    elim (cases_eq k n) [
      | inl last ↦
          let before = sum-le total f most is few n in
          let own = subst (λ (j : ℕ). f j < most) last less in
          grind arith
      | inr earlier ↦ let before = sum-lt total f most is few n k (omega arith) less in grind arith
    ]

below_more : (t : Bool) (k n : ℕ) → cond (t && nat_lt k (suc n)) 1 0 ≡ cond (t && nat_lt k n) 1 0 + cond (t && k == n) 1 0
below_more t k n = grind (arith, nat_tests)

none_below : (t : Bool) (k : ℕ) → (t && nat_lt k 0) ≡ false
none_below t k = grind (arith, nat_tests)

-- those with a key below n are those with each key
count_more : {X : Type 0} (p : X → Bool) (key : X → ℕ) (n : ℕ) (xs : List X)
    → count_by (λ x. p x && nat_lt (key x) (suc n)) xs ≡ count_by (λ x. p x && nat_lt (key x) n) xs + count_by (λ x. p x && key x == n) xs
count_more p key n [] = refl
count_more p key n (x ∷ xs) =
    omega (
      arith,
      count_by-cons (λ y. p y && nat_lt (key y) (suc n)) x xs,
      count_by-cons (λ y. p y && nat_lt (key y) n) x xs,
      count_by-cons (λ y. p y && key y == n) x xs,
      below_more (p x) (key x) n,
      count_more p key n xs,
    )

pub counts_sum : {X : Type 0} (p : X → Bool) (key : X → ℕ) (xs : List X)
    → IsSum (λ n. count_by (λ x. p x && nat_lt (key x) n) xs) (λ n. count_by (λ x. p x && key x == n) xs)
counts_sum p key xs = record {
  none = count_by_none (λ x. p x && nat_lt (key x) 0) (λ x. none_below (p x) (key x)) xs;
  more = λ n. count_more p key n xs;
}

-- Sums over the views of a table.
use Rattle.std.proofs.Common.{◌≡◌, ◌≢◌, ℕ, zero, suc, ◌+◌, ◌≤◌, List, [], ◌∷◌, ◌++◌, set, refl, ap, sym, arith}
use mathlib.Core.Option.{some, some-injective, some-ne-none}
use lib.ListN.{get_elem?}
use Rattle.turn_desk.specs.Rule.{sum_over}

module _ {V : Type 0} where
  pub sum_set : (f : V → ℕ) (vs : List V) (i : ℕ) (v w : V) → get_elem? vs i ≡ some v
      → sum_over f (set vs i w) + f v ≡ sum_over f vs + f w
  sum_set f [] i v w e = absurd (some-ne-none v (sym e))
  sum_set f (x ∷ xs) zero v w e = let h : f x ≡ f v = ap f (some-injective x v e) in omega arith
  sum_set f (x ∷ xs) (suc i) v w e = let h = sum_set f xs i v w e in omega arith

  pub sum_snoc : (f : V → ℕ) (vs : List V) (w : V) → sum_over f (vs ++ w ∷ []) ≡ sum_over f vs + f w
  sum_snoc f [] w = omega arith
  sum_snoc f (x ∷ xs) w = let h = sum_snoc f xs w in omega arith

  pub sum_at : (f : V → ℕ) (vs : List V) (i : ℕ) (v : V) → get_elem? vs i ≡ some v → f v ≤ sum_over f vs
  sum_at f [] i v e = absurd (some-ne-none v (sym e))
  sum_at f (x ∷ xs) zero v e = let h : f x ≡ f v = ap f (some-injective x v e) in omega arith
  sum_at f (x ∷ xs) (suc i) v e = let h = sum_at f xs i v e in omega arith

  pub sum_two : (f : V → ℕ) (vs : List V) (i j : ℕ) (v u : V) → i ≢ j → get_elem? vs i ≡ some v
      → get_elem? vs j ≡ some u → f v + f u ≤ sum_over f vs
  sum_two f [] i j v u n e g = absurd (some-ne-none v (sym e))
  sum_two f (x ∷ xs) zero zero v u n e g = absurd (n refl)
  sum_two f (x ∷ xs) zero (suc j) v u n e g = let h : f x ≡ f v = ap f (some-injective x v e) in let k =
      sum_at f xs j u g in omega arith
  sum_two f (x ∷ xs) (suc i) zero v u n e g = let h : f x ≡ f u = ap f (some-injective x u g) in let k =
      sum_at f xs i v e in omega arith
  sum_two f (x ∷ xs) (suc i) (suc j) v u n e g = let h = sum_two f xs i j v u (λ p. n (ap suc p)) e g in omega arith

  pub sum_le : (f g : V → ℕ) (vs : List V) → ((i : ℕ) (v : V) → get_elem? vs i ≡ some v → f v ≤ g v)
      → sum_over f vs ≤ sum_over g vs
  sum_le f g [] h = omega arith
  sum_le f g (x ∷ xs) h = let a = h 0 x refl in let b = sum_le f g xs (λ i v e. h (suc i) v e) in omega arith

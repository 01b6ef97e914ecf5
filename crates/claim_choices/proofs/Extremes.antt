-- A least and a greatest number of those with a property: that there is one isn't false.
use Rattle.std.proofs.Common.{ℕ, zero, suc, ◌+◌, ◌≤◌, inl, inr, arith}
use Rattle.std.proofs.lemmas.Bool.{cases_lt}

pub record IsLeast (P : ℕ → Type 0) (n : ℕ) : Type 0 where
  pub is : P n
  pub least : (other : ℕ) → P other → n ≤ other

pub record IsGreatest (P : ℕ → Type 0) (n : ℕ) : Type 0 where
  pub is : P n
  pub most : (other : ℕ) → P other → other ≤ n

least_by : (P : ℕ → Type 0) (fuel n : ℕ) → n ≤ fuel → P n → ((m : ℕ) → ¬ IsLeast P m) → ⊥
least_by P zero n bound is none = none n (record { is = is; least = λ other _. omega (arith, bound) })
least_by P (suc fuel) n bound is none = none n (record {
  is = is;
  least = λ other also. elim (cases_lt other n) [
    | inl less ↦ absurd (least_by P fuel other (omega (arith, bound, less)) also none)
    | inr more ↦ more
  ];
})

pub least_of : (P : ℕ → Type 0) (n : ℕ) → P n → ¬ ((m : ℕ) → ¬ IsLeast P m)
least_of P n is none = least_by P n n (omega arith) is none

greatest_by : (P : ℕ → Type 0) (bound fuel n : ℕ) → ((k : ℕ) → P k → k ≤ bound) → bound ≤ n + fuel → P n
    → ((m : ℕ) → ¬ IsGreatest P m) → ⊥
greatest_by P bound zero n few reach is none =
    none n (record { is = is; most = λ other also. let b = few other also in omega (arith, reach) })
greatest_by P bound (suc fuel) n few reach is none = none n (record {
  is = is;
  most = λ other also. elim (cases_lt n other) [
    | inl more ↦ absurd (greatest_by P bound fuel other few (omega (arith, reach, more)) also none)
    | inr less ↦ less
  ];
})

pub greatest_of : (P : ℕ → Type 0) (bound n : ℕ) → ((k : ℕ) → P k → k ≤ bound) → P n
    → ¬ ((m : ℕ) → ¬ IsGreatest P m)
greatest_of P bound n few is none = greatest_by P bound bound n few (omega arith) is none

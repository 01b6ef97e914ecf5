-- The least height whose width is so many nodes or more.
use Rattle.std.proofs.Common.{◌-◌, ◌/◌, max, ◌≡◌, ℕ, zero, suc, ◌+◌, ◌^◌, ◌<◌, ◌≤◌, refl, ap, arith, ◌∙◌, inl, inr, true, false, sym, subst}
use Rattle.std.specs.Prelude.{nat_le}
use Rattle.std.proofs.lemmas.Bool.{cases_lt, cases_order, le-leb, lt-leb}
use Rattle.std.specs.Int.{IsPowerOfTwo}
use Rattle.std.proofs.Math.Nat.{pow-succ'}
use Rattle.std.proofs.lemmas.Nat.{pow_below, pow_pos}
use Rattle.merkle_trees.specs.Trees.{height_from, height_of}

-- the steps of the search
found : (more height count : ℕ) → count ≤ 2 ^ height → height_from (suc more) height count ≡ height
unfolding height_from
found more height count fit = let is : nat_le count (2 ^ height) ≡ true = le-leb count (2 ^ height) fit in rw is refl

next : (more height count : ℕ) → 2 ^ height < count
    → height_from (suc more) height count ≡ height_from more (suc height) count
unfolding height_from
next more height count over = let is : nat_le count (2 ^ height) ≡ false
    = lt-leb count (2 ^ height) over in rw is refl

done : (height count : ℕ) → height_from 0 height count ≡ height
unfolding height_from
done height count = refl

-- a height that is wide enough, and above all that aren't, is found
pub height_from-least : (more from count height : ℕ) → from ≤ height → height ≤ from + more → count ≤ 2 ^ height
    → ((lower : ℕ) → lower < height → 2 ^ lower < count) → height_from more from count ≡ height
height_from-least zero from count height low high fit least =
    let at : from ≡ height = omega arith in done from count ∙ at
height_from-least (suc more) from count height low high fit least = elim (cases_lt from height) [
  | inl below ↦ next more from count (least from below)
      ∙ height_from-least more (suc from) count height (omega arith) (omega arith) fit least
  | inr above ↦
      let at : height ≡ from = omega arith in
      let here : count ≤ 2 ^ from = rw (← at) fit in
      found more from count here ∙ (omega arith)
]

-- the height that is found is wide enough
pub height_from-fits : (more from count : ℕ) → count ≤ 2 ^ (from + more) → count ≤ 2 ^ height_from more from count
height_from-fits zero from count fit =
    let at : from + 0 ≡ from = omega arith in
    let here : count ≤ 2 ^ from = subst (λ (height : ℕ). count ≤ 2 ^ height) at fit in
    subst (λ (height : ℕ). count ≤ 2 ^ height) (sym (done from count)) here
height_from-fits (suc more) from count fit = elim (cases_lt (2 ^ from) count) [
  | inl over ↦
      let at : from + suc more ≡ suc from + more = omega arith in
      let later : count ≤ 2 ^ (suc from + more) = subst (λ (height : ℕ). count ≤ 2 ^ height) at fit in
      subst (λ (height : ℕ). count ≤ 2 ^ height) (sym (next more from count over))
      (height_from-fits more (suc from) count later)
  | inr here ↦ subst (λ (height : ℕ). count ≤ 2 ^ height) (sym (found more from count here)) here
]

-- and above all that aren't
pub height_from-above : (more from count : ℕ) → ((lower : ℕ) → lower < from → 2 ^ lower < count)
    → (lower : ℕ) → lower < height_from more from count → 2 ^ lower < count
height_from-above zero from count least lower below =
    least lower (subst (λ (height : ℕ). lower < height) (done from count) below)
height_from-above (suc more) from count least lower below = elim (cases_lt (2 ^ from) count) [
  | inl over ↦ height_from-above more (suc from) count
      (λ under less. elim (cases_lt under from) [
        | inl before ↦ least under before
        | inr behind ↦
            let at : from ≡ under = omega arith in subst (λ (height : ℕ). 2 ^ height < count) at over
      ])
      lower (subst (λ (height : ℕ). lower < height) (next more from count over) below)
  | inr here ↦ least lower (subst (λ (height : ℕ). lower < height) (found more from count here) below)
]

-- the height of a power of two
pub height_of-power : (height : ℕ) → height ≤ 31 → height_of (2 ^ height) ≡ height
height_of-power height low =
    height_from-least 31 0 (2 ^ height) height (omega arith) (omega arith) (omega arith)
    (λ lower below. pow_below lower height below)

-- a power of two of 32 bits
pub power-bound : (width : ℕ) → IsPowerOfTwo width → width < 2 ^ 32 → width ≤ 2 ^ 31
power-bound width power below = elim (cases_lt power.0 31) [
  | inl low ↦ omega (arith, power.1, pow_below power.0 31 low)
  | inr high ↦ elim (cases_lt 31 power.0) [
    | inr same ↦
        let at : power.0 ≡ 31 = omega arith in
        let is : width ≡ 2 ^ 31 = power.1 ∙ ap (λ (height : ℕ). 2 ^ height) at in omega (arith, is)
    | inl over ↦ elim (cases_lt 32 power.0) [
      | inl more ↦ omega (arith, power.1, pow_below 32 power.0 more)
      | inr same ↦
          let at : power.0 ≡ 32 = omega arith in
          let is : width ≡ 2 ^ 32 = power.1 ∙ ap (λ (height : ℕ). 2 ^ height) at in omega (arith, is)
    ]
  ]
]

-- a power of two is the least one that is as great
pub next-power : (number power : ℕ) → IsPowerOfTwo number → IsPowerOfTwo power → number ≤ power
    → power / 2 < max 1 number → power ≡ number
next-power number power is of fits next = elim (cases_order of.0 is.0) [
  | inl same ↦ of.1 ∙ ap (λ (height : ℕ). 2 ^ height) same ∙ sym is.1
  | inr other ↦ elim other [
    | inl below ↦ absurd (let less = pow_below of.0 is.0 below in omega (arith, less, is.1, of.1))
    | inr above ↦
        absurd (
        let lower = of.0 - 1 in
        let at : of.0 ≡ suc lower = omega arith in
        let wide : power ≡ 2 ^ suc lower = of.1 ∙ ap (λ (height : ℕ). 2 ^ height) at in
        let halves = pow-succ' 2 lower in
        let some = pow_pos is.0 in
        let under : 2 ^ is.0 ≤ 2 ^ lower = elim (cases_lt is.0 lower) [
          | inl less ↦ (let step = pow_below is.0 lower less in omega (arith, step))
          | inr more ↦ (let alike : is.0 ≡ lower = omega arith in
              let equal : 2 ^ is.0 ≡ 2 ^ lower = ap (λ (height : ℕ). 2 ^ height) alike in omega (arith, equal))
        ] in
        omega (arith, wide, halves, under, some, is.1))
  ]
]

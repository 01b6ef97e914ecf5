-- The claim that is stolen of among the first ones of a list.
use Rattle.std.proofs.Common.{◌≡◌, ℕ, ◌+◌, ◌-◌, ◌*◌, ◌<◌, ◌≤◌, List, [], ◌∷◌, ◌++◌, get_or, refl, inl, inr, sym, arith}
use Rattle.std.specs.Prelude.{◌⊎◌, Option, Some, None, MatchOption, All}
use Rattle.std.proofs.lemmas.Bool.{cases_lt, cases_order}
use Rattle.std.proofs.lemmas.List.Elements.{All-push, Contains-push, Contains-append_left}
use Rattle.std.proofs.Math.Nat.{mul-le-mul_left}
use Rattle.dl_kinds.specs.declared.claims.ClaimView.{ClaimView}
use Rattle.slow_steal.specs.Theft.{MayLose, IsAsSlow, IsSlower, IsStolenBefore, IsVictim, cross_weight}

-- no claim before this one is stolen of
abbrev pub IsNotLater : ℕ → ClaimView → ClaimView → Type 0
IsNotLater now claim other = IsSlower now claim other ⊎ (IsAsSlow now claim other × (claim.id ≤ other.id))

abbrev pub IsFound : ℕ → List ClaimView → Option ClaimView → Type 0
IsFound now claims found = MatchOption found (All (λ claim. MayLose claim → ⊥) claims) (IsVictim now claims)

-- Of three fractions a / d, b / e and c / f: where the first is at least the second, and that is above the third, the
-- first is above the third ..
above : (a b c d e f : ℕ) → b * d ≤ a * e → c * e < b * f → 1 ≤ d → a * f ≤ c * d → ⊥
above a b c d e f first second some not =
    let h1 : f * (b * d) ≤ f * (a * e) = mul-le-mul_left f first in
    let h2 : d * (c * e + 1) ≤ d * (b * f) = mul-le-mul_left d (omega arith) in
    let h3 : e * (a * f) ≤ e * (c * d) = mul-le-mul_left e not in
    omega arith

-- .. likewise where the first is above the second, and that is at least the third
beyond : (a b c d e f : ℕ) → b * d < a * e → c * e ≤ b * f → 1 ≤ f → a * f ≤ c * d → ⊥
beyond a b c d e f first second some not =
    let h1 : f * (b * d + 1) ≤ f * (a * e) = mul-le-mul_left f (omega arith) in
    let h2 : d * (c * e) ≤ d * (b * f) = mul-le-mul_left d second in
    let h3 : e * (a * f) ≤ e * (c * d) = mul-le-mul_left e not in
    omega arith

-- .. and where neither differs from the next, the first doesn't differ from the third
level : (a b c d e f : ℕ) → b * d ≤ a * e → c * e ≤ b * f → 1 ≤ e → a * f < c * d → ⊥
level a b c d e f first second some not =
    let h1 : f * (b * d) ≤ f * (a * e) = mul-le-mul_left f first in
    let h2 : d * (c * e) ≤ d * (b * f) = mul-le-mul_left d second in
    let h3 : e * (a * f + 1) ≤ e * (c * d) = mul-le-mul_left e (omega arith) in
    omega arith

-- a claim that is stolen of before the victim is so before each that the victim isn't after
before_all : (now : ℕ) (x y z : ClaimView) → IsStolenBefore now x y → IsNotLater now y z → IsNotLater now x z
before_all now x y z first second =
    let a : ℕ = x.unlanded * (now - x.since.0) in
    let b : ℕ = y.unlanded * (now - y.since.0) in
    let c : ℕ = z.unlanded * (now - z.since.0) in
    let d : ℕ = x.landed + 1 in
    let e : ℕ = y.landed + 1 in
    let f : ℕ = z.landed + 1 in
    let some_d : 1 ≤ d = omega arith in
    let some_e : 1 ≤ e = omega arith in
    let some_f : 1 ≤ f = omega arith in
    elim first [
      | inl slower ↦
          let weak : c * e ≤ b * f = elim second [
            | inl less ↦ omega arith
            | inr same ↦ let e : b * f ≡ c * e =
                same.0 in omega arith
          ] in
          inl (elim (cases_lt (c * d) (a * f)) [
            | inl less ↦ less
            | inr not ↦
                absurd (beyond a b c d e f slower weak some_f not)
          ])
      | inr level_first ↦
          let same : a * e ≡ b * d = level_first.0 in
          elim second [
            | inl slower ↦ inl (elim (cases_lt (c * d) (a * f)) [
              | inl less ↦ less
              | inr not ↦
                  absurd (above a b c d e f (omega arith) slower some_d not)
            ])
            | inr level_second ↦
                let alike : b * f ≡ c * e = level_second.0 in
                let lower : x.id < y.id = level_first.1 in
                let low : y.id ≤ z.id = level_second.1 in
                let up : c * d ≤ a * f = (elim (cases_lt (a * f) (c * d)) [
                  | inl less ↦
                      absurd (level a b c d e f (omega arith) (omega arith) some_e less)
                  | inr not ↦ not
                ]) in
                let down : a * f ≤ c * d = (elim (cases_lt (c * d) (a * f)) [
                  | inl less ↦
                      absurd (level c b a f e d (omega arith) (omega arith) some_e less)
                  | inr not ↦ not
                ]) in
                inr (omega arith, omega arith)
          ]
    ]

-- the next claim may lose nothing
pub found_skip : (now : ℕ) (claims : List ClaimView) (claim : ClaimView) (found : Option ClaimView)
    → IsFound now claims found → (MayLose claim → ⊥) → IsFound now (claims ++ claim ∷ []) found
found_skip now claims claim None none not = All-push (λ (c : ClaimView). MayLose c → ⊥) claims claim none not
found_skip now claims claim (Some victim) is not = record {
  listed = Contains-append_left claims (claim ∷ []) victim is.listed;
  may = is.may;
  slowest = All-push (λ (c : ClaimView). MayLose c → IsNotLater now victim c) claims claim is.slowest
      (λ may. absurd (not may));
}

-- it isn't stolen of before the one that was found
pub found_stays : (now : ℕ) (claims : List ClaimView) (claim : ClaimView) (found : Option ClaimView)
    → IsFound now claims found → (MatchOption found (Unit {0}) (λ victim. IsStolenBefore now claim victim) → ⊥)
    → IsFound now (claims ++ claim ∷ []) found
found_stays now claims claim None none not = absurd (not tt)
found_stays now claims claim (Some victim) is not =
    let later : MayLose claim → IsNotLater now victim claim =
    λ _. elim (cases_order (cross_weight now victim claim) (cross_weight now claim victim)) [
      | inl same ↦ inr (
        same,
        elim (cases_lt claim.id victim.id) [
          | inl lower ↦
              absurd (not (inr (sym same, lower)))
          | inr high ↦ high
        ],
      )
      | inr differs ↦ elim differs [ inl less ↦ absurd (not (inl less)) | inr more ↦ inl more ]
    ] in
    record {
      listed = Contains-append_left claims (claim ∷ []) victim is.listed;
      may = is.may;
      slowest = All-push (λ (c : ClaimView). MayLose c → IsNotLater now victim c) claims claim is.slowest later;
    }

itself : (now : ℕ) (claim : ClaimView) → IsNotLater now claim claim
itself now claim = inr (refl, omega arith)

-- it is
pub found_takes : (now : ℕ) (claims : List ClaimView) (claim : ClaimView) (found : Option ClaimView)
    → IsFound now claims found → MayLose claim
    → MatchOption found (Unit {0}) (λ victim. IsStolenBefore now claim victim)
    → IsVictim now (claims ++ claim ∷ []) claim
found_takes now claims claim None none may _ = record {
  listed = Contains-push claims claim;
  may = may;
  slowest = All-push (λ (c : ClaimView). MayLose c → IsNotLater now claim c) claims claim
      (λ k d less lost. absurd (none k d less lost)) (λ _. itself now claim);
}
found_takes now claims claim (Some victim) is may before = record {
  listed = Contains-push claims claim;
  may = may;
  slowest = All-push (λ (c : ClaimView). MayLose c → IsNotLater now claim c) claims claim
      (λ k d less lost. before_all now claim victim (get_or claims k d) before (is.slowest k d less lost))
      (λ _. itself now claim);
}

-- What a stretch of calls at one rate lets go.
use Rattle.std.proofs.Common.{◌≡◌, ℕ, ◌+◌, ◌-◌, ◌*◌, ◌/◌, ◌<◌, ◌≤◌, min, max, List, [], ◌∷◌, ◌++◌, refl, sym, ◌∙◌, subst, ap, arith, mul-le-mul_left}
use Rattle.std.specs.Prelude.{nat_le, ◌&&◌, if◌then◌else◌}
use Rattle.std.specs.List.{AllByRecursion}
use Rattle.std.proofs.lemmas.List.Elements.{recursion_from_All}
use Rattle.std.proofs.lemmas.Bool.Decides.{nat_tests}
use Rattle.rate_tokens.specs.Calls.{BucketCall, Taken, RateSet, capacity_of, refilled, answer_of, granted_bytes, left_by, rate_after, moment_after, held_after}
use Rattle.rate_tokens.specs.Rates.{KeepsRate, gone_between, RateIsKept}

-- a take at a rate leaves the rest of what is held
taken_left : (r level want now : ℕ) → 0 < r → left_by (Taken want now) r level + 1000 * granted_bytes (answer_of r level want) ≤ level
taken_left r level want now some = grind (arith, nat_tests)

-- and the same rate leaves all
set_left : (r level now : ℕ) → 0 < r → left_by (RateSet r now) r level ≤ level
set_left r level now some = grind (arith, nat_tests)

-- what has gone from moment u to moment v, of a bucket that has come to this moment and holds so much
record IsBounded (r u v moment held gone : ℕ) : Type 0 where
  none : moment < u → gone ≡ 0
  so_far : moment ≤ v → 1000 * gone + held ≤ capacity_of r + r * (moment - u)
  all : 1000 * gone ≤ capacity_of r + r * (v - u)
  within : held ≤ capacity_of r

abbrev counted : ℕ → ℕ → ℕ → ℕ → ℕ
counted u v moment bytes = if nat_le u moment && nat_le moment v then bytes else 0

none_step : (u v m now gone bytes : ℕ) → (m < u → gone ≡ 0) → max m now < u → counted u v (max m now) bytes + gone ≡ 0
none_step u v m now gone bytes none early = grind (arith, nat_tests)

-- `so` is what the rate gives from u to the moment before, `more` what it gives then, `new` what it gives from u to the moment after
so_far_step : (cap u v m n held gone bytes left so more new : ℕ) → m ≤ n → n ≤ v → left + 1000 * bytes ≤ min cap (held + more)
    → (m < u → gone ≡ 0) → (m ≤ v → 1000 * gone + held ≤ cap + so) → (u ≤ m → new ≡ so + more)
    → 1000 * (counted u v n bytes + gone) + left ≤ cap + new
so_far_step cap u v m n held gone bytes left so more new later in_time takes none so_far adds = grind (arith, nat_tests)

all_step : (cap u v n gone bytes left new most : ℕ) → (n ≤ v → 1000 * (counted u v n bytes + gone) + left ≤ cap + new) → (n ≤ v → new ≤ most)
    → 1000 * gone ≤ cap + most → 1000 * (counted u v n bytes + gone) ≤ cap + most
all_step cap u v n gone bytes left new most so_far less all = grind (arith, nat_tests)

times_later : (r u m now : ℕ) → u ≤ m → r * (max m now - u) ≡ r * (m - u) + r * (now - m)
times_later r u m now h =
    let e : max m now - u ≡ (m - u) + (now - m) = omega arith in
    ap (λ x. r * x) e ∙ grind arith

times_less : (r a b u : ℕ) → a ≤ b → r * (a - u) ≤ r * (b - u)
times_less r a b u h = mul-le-mul_left r (omega arith)

bounded_step : (r u v m now held gone bytes left : ℕ) → left + 1000 * bytes ≤ refilled r held (now - m) → IsBounded r u v m held gone
    → IsBounded r u v (max m now) left (counted u v (max m now) bytes + gone)
bounded_step r u v m now held gone bytes left takes before =
    let so_far = λ (in_time : max m now ≤ v). so_far_step (capacity_of r) u v m (max m now) held gone bytes left (r * (m - u)) (r * (now - m)) (r * (max m now - u)) (omega arith) in_time takes before.none before.so_far (times_later r u m now) in
    record {
      none = none_step u v m now gone bytes before.none;
      so_far = so_far;
      all = all_step (capacity_of r) u v (max m now) gone bytes left (r * (max m now - u)) (r * (v - u)) so_far (times_less r (max m now) v u) before.all;
      within = omega arith;
    }

-- the rate stays where each call keeps it
rate_stays : (first r : ℕ) (before stretch : List BucketCall) → rate_after first before ≡ r → AllByRecursion (KeepsRate r) stretch
    → rate_after first (stretch ++ before) ≡ r
rate_stays first r before [] rate keeps = rate
rate_stays first r before (Taken want now ∷ stretch) rate keeps = rate_stays first r before stretch rate keeps.1
rate_stays first r before (RateSet new now ∷ stretch) rate keeps = keeps.0

-- a bucket never holds more than its capacity
held_within : (first begun : ℕ) (calls : List BucketCall) → held_after first begun calls ≤ capacity_of (rate_after first calls)
held_within first begun [] = omega arith
held_within first begun (Taken want now ∷ earlier) = grind (arith, nat_tests)
held_within first begun (RateSet new now ∷ earlier) = grind (arith, nat_tests)

bounded : (first begun r u v : ℕ) (before stretch : List BucketCall) → 0 < r → rate_after first before ≡ r → AllByRecursion (KeepsRate r) stretch
    → IsBounded r u v (moment_after begun (stretch ++ before)) (held_after first begun (stretch ++ before)) (gone_between first begun before stretch u v)
bounded first begun r u v before [] some rate keeps =
    let within = subst (λ (x : ℕ). held_after first begun before ≤ capacity_of x) rate (held_within first begun before) in
    record { none = λ _. refl; so_far = λ _. omega arith; all = omega arith; within = within }
bounded first begun r u v before (Taken want now ∷ stretch) some rate keeps =
    let calls : List BucketCall = stretch ++ before in
    let rate_now : ℕ = rate_after first calls in
    let moment : ℕ = moment_after begun calls in
    let held : ℕ = held_after first begun calls in
    let level : ℕ = refilled rate_now held (now - moment) in
    let bytes : ℕ = granted_bytes (answer_of rate_now level want) in
    let left : ℕ = left_by (Taken want now) rate_now level in
    let same : rate_now ≡ r = rate_stays first r before stretch rate keeps.1 in
    let takes = subst (λ (x : ℕ). left + 1000 * bytes ≤ refilled x held (now - moment)) same (taken_left rate_now level want now (omega arith)) in
    bounded_step r u v moment now held (gone_between first begun before stretch u v) bytes left takes (bounded first begun r u v before stretch some rate keeps.1)
bounded first begun r u v before (RateSet new now ∷ stretch) some rate keeps =
    let calls : List BucketCall = stretch ++ before in
    let rate_now : ℕ = rate_after first calls in
    let moment : ℕ = moment_after begun calls in
    let held : ℕ = held_after first begun calls in
    let level : ℕ = refilled rate_now held (now - moment) in
    let left : ℕ = left_by (RateSet new now) rate_now level in
    let same : rate_now ≡ r = rate_stays first r before stretch rate keeps.1 in
    let leaves : left ≤ level = subst (λ (x : ℕ). left_by (RateSet x now) rate_now level ≤ level) (same ∙ sym keeps.0) (set_left rate_now level now (omega arith)) in
    let takes = subst (λ (x : ℕ). left + 1000 * 0 ≤ refilled x held (now - moment)) same (omega arith) in
    bounded_step r u v moment now held (gone_between first begun before stretch u v) 0 left takes (bounded first begun r u v before stretch some rate keeps.1)

whole_bytes : (gone most gives : ℕ) → 1000 * gone ≤ 1000 * most + gives → gone ≤ most + gives / 1000
whole_bytes gone most gives h = omega arith

pub rate_is_kept_lem : RateIsKept
rate_is_kept_lem first begun r u v before stretch some rate keeps =
    whole_bytes _ (max r 16384) (r * (v - u)) (bounded first begun r u v before stretch some rate (recursion_from_All (KeepsRate r) stretch keeps)).all

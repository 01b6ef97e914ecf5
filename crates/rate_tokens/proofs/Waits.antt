-- When a take that has to wait may go.
use Rattle.std.proofs.Common.{◌≡◌, ℕ, ◌+◌, ◌-◌, ◌*◌, ◌/◌, ◌<◌, ◌≤◌, max, List, ◌∷◌, sym, ◌∙◌, ◌^◌, subst, ap, arith}
use Rattle.std.specs.Prelude.{if◌then◌else◌, ◌==◌}
use Rattle.std.specs.Int.{div_ceil}
use Rattle.std.proofs.lemmas.Bool.Decides.{nat_tests}
use Rattle.std.proofs.lemmas.Grind.{div_ceil_times}
use Rattle.rate_tokens.specs.declared.bucket.Take.TheVariants.{Hold}
use Rattle.rate_tokens.specs.Calls.{BucketCall, Taken, refilled, answer_at, credit_at, answer_of, granted_bytes, left_by, rate_after, moment_after, held_after, held_at}
use Rattle.rate_tokens.specs.Rates.{WaitIsEnough, WaitIsLeast, WaitTakesNothing}

wait_is_enough : (a r passed : ℕ) → 0 < r → div_ceil a r ≤ passed → a ≤ r * passed
wait_is_enough a r passed some long = grind (arith, div_ceil_times a r some)

wait_is_least : (a r passed : ℕ) → 0 < r → passed < div_ceil a r → r * passed < a
wait_is_least a r passed some short = grind (arith, div_ceil_times a r some)

-- a take has to wait only where there is a limit and less than a byte is held
record IsHeld (r level wait : ℕ) : Type 0 where
  limited : 0 < r
  less : level < 1000
  time : wait ≡ div_ceil (1000 - level) r

is_held : (r level want wait : ℕ) → 1 ≤ want → answer_of r level want ≡ Hold wait → IsHeld r level wait
is_held r level want wait some h = record { limited = grind (arith, nat_tests); less = grind (arith, nat_tests); time = grind (arith, nat_tests) }

enough : (r level wait passed : ℕ) → IsHeld r level wait → wait ≤ passed → 1000 ≤ refilled r level passed
enough r level wait passed is long =
    let e = wait_is_enough (1000 - level) r passed is.limited (omega arith) in omega arith

least : (r level wait passed : ℕ) → IsHeld r level wait → passed < wait → refilled r level passed < 1000
least r level wait passed is short =
    let e = wait_is_least (1000 - level) r passed is.limited (omega arith) in omega arith

some_wait : (r level wait : ℕ) → IsHeld r level wait → 0 < wait
some_wait r level wait is = grind (arith, div_ceil_times (1000 - level) r is.limited)

-- such a take leaves all
held_left : (r level want now wait : ℕ) → answer_of r level want ≡ Hold wait → left_by (Taken want now) r level ≡ level
held_left r level want now wait held =
    let none : granted_bytes (answer_of r level want) ≡ 0 = ap granted_bytes held in grind (arith, nat_tests)

-- so the credit after it is what the same level gives
credit_after : (r left level passed : ℕ) → left ≡ level → 0 < r
    → (if r == 0 then 2 ^ 64 - 1 else refilled r left passed / 1000) ≡ refilled r level passed / 1000
credit_after r left level passed same some = grind (arith, nat_tests)

some_credit : (held : ℕ) → 1000 ≤ held → 1 ≤ held / 1000
some_credit held h = omega arith

no_credit : (held : ℕ) → held < 1000 → held / 1000 ≡ 0
no_credit held h = omega arith

record AfterHold (first begun want now wait : ℕ) (earlier : List BucketCall) : Type 0 where
  held : IsHeld (rate_after first earlier) (held_at first begun earlier now) wait
  credit : (moment : ℕ) → credit_at first begun (Taken want now ∷ earlier) moment
      ≡ refilled (rate_after first earlier) (held_at first begun earlier now) (moment - max (moment_after begun earlier) now) / 1000

after_hold : (first begun want now wait : ℕ) (earlier : List BucketCall) → 1 ≤ want → answer_at first begun earlier want now ≡ Hold wait
    → AfterHold first begun want now wait earlier
after_hold first begun want now wait earlier some held =
    let r : ℕ = rate_after first earlier in
    let level : ℕ = held_at first begun earlier now in
    let is = is_held r level want wait some held in
    record {
      held = is;
      credit = λ moment. credit_after r (left_by (Taken want now) r level) level (moment - max (moment_after begun earlier) now) (held_left r level want now wait held) is.limited;
    }

pub wait_is_enough_lem : WaitIsEnough
wait_is_enough_lem first begun want now wait moment earlier some held late =
    let after = after_hold first begun want now wait earlier some held in
    let long = some_wait _ _ wait after.held in
    subst (λ (x : ℕ). 1 ≤ x) (sym (after.credit moment)) (some_credit _ (enough _ _ wait (moment - max (moment_after begun earlier) now) after.held (omega arith)))

pub wait_is_least_lem : WaitIsLeast
wait_is_least_lem first begun want now wait moment earlier some held early =
    let after = after_hold first begun want now wait earlier some held in
    let long = some_wait _ _ wait after.held in
    after.credit moment ∙ no_credit _ (least _ _ wait (moment - max (moment_after begun earlier) now) after.held (omega arith))

-- two times after one another fill as both together
filled_twice : (r held a b : ℕ) → refilled r (refilled r held a) b ≡ refilled r held (a + b)
filled_twice r held a b = let e : r * (a + b) ≡ r * a + r * b = grind arith in omega arith

-- so what is held at a later moment doesn't depend on whether the bucket came to one between
filled_later : (r held m now moment : ℕ) → now ≤ moment → refilled r (refilled r held (now - m)) (moment - max m now) ≡ refilled r held (moment - m)
filled_later r held m now moment later =
    let passed : (now - m) + (moment - max m now) ≡ moment - m = omega arith in
    filled_twice r held (now - m) (moment - max m now) ∙ ap (refilled r held) passed

pub wait_takes_nothing_lem : WaitTakesNothing
wait_takes_nothing_lem first begun want now wait moment earlier held later =
    let r : ℕ = rate_after first earlier in
    let level : ℕ = held_at first begun earlier now in
    let left = held_left r level want now wait held in
    ap (λ (x : ℕ). refilled r x (moment - max (moment_after begun earlier) now)) left
    ∙ filled_later r (held_after first begun earlier) (moment_after begun earlier) now moment later

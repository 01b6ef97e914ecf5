-- A bucket has a byte once the time that it told to wait is over.
use Rattle.std.proofs.Common.{◌≡◌, ◌≤◌, ◌<◌, ◌+◌, ◌-◌, ◌*◌, ◌/◌, ◌^◌, max, ℕ, zero, suc, Bool, true, false, refl, sym, ap, subst, ◌∙◌, ⊎_elim, arith, eq-eqb}
use Rattle.std.specs.Prelude.{◌==◌, if◌then◌else◌}
use Rattle.std.specs.Int.{div_ceil}
use Rattle.std.proofs.lemmas.Bool.{cases_lt, eqb-true}
use Rattle.std.proofs.lemmas.Grind.{div_ceil_times}
use Rattle.rate_limits.specs.Shared.{RunLevels, lesser_credit, longer_wait, own_level}
use Rattle.rate_tokens.specs.Calls.{credit_of, refilled}
use Rattle.rate_tokens.specs.Level.{Level, credit_in, held_in, wait_in}

-- what is held once so much more time has passed
filled_on : (r held a b : ℕ) → a ≤ b → refilled r held b ≡ refilled r (refilled r held a) (b - a)
filled_on r held a b more =
    let e : r * b ≡ r * a + r * (b - a) = (let d : b ≡ a + (b - a) = omega arith in grind (arith, d)) in omega arith

wait_is_enough : (a r passed : ℕ) → 0 < r → div_ceil a r ≤ passed → a ≤ r * passed
wait_is_enough a r passed some long = grind (arith, div_ceil_times a r some)

enough_held : (r held passed : ℕ) → 0 < r → 1000 ≤ held + r * passed → 1 ≤ refilled r held passed / 1000
enough_held r held passed some full = (let cap : 1000 ≤ 1000 * max r 16384 = omega arith in omega arith)

-- by whether there is a byte now
comes_where : (r held passed : ℕ) (none : Bool) → 0 < r → (held / 1000 == 0) ≡ none
    → (if none then div_ceil (1000 - held) r else 0) ≤ passed → 1 ≤ refilled r held passed / 1000
comes_where r held passed true some is long =
    let zero_is : held / 1000 ≡ 0 = eqb-true (held / 1000) 0 is in
    let e = wait_is_enough (1000 - held) r passed some long in
    enough_held r held passed some (omega arith)
comes_where r held passed false some is long =
    enough_held r held passed some (⊎_elim
    (λ (less : held < 1000). absurd (let zero_is : held / 1000 ≡ 0 = omega arith in
    let yes : (held / 1000 == 0) ≡ true = eq-eqb (held / 1000) 0 zero_is in
    let no : true ≡ false = sym yes ∙ is in cc))
    (λ (all : 1000 ≤ held). omega arith) (cases_lt held 1000))

comes_if : (r held passed : ℕ) (free : Bool) → (r == 0) ≡ free
    → (if (if free then 2 ^ 64 - 1 else held / 1000) == 0 then div_ceil (1000 - held) r else 0) ≤ passed
    → 1 ≤ (if free then 2 ^ 64 - 1 else refilled r held passed / 1000)
comes_if r held passed true is long = omega arith
comes_if r held passed false is long =
    comes_where r held passed (held / 1000 == 0)
    (⊎_elim (λ (some : 0 < r). some)
    (λ (none : r ≤ 0). absurd (let zero_is : r ≡ 0 = omega arith in
    let yes : (r == 0) ≡ true = eq-eqb r 0 zero_is in let no : true ≡ false = sym yes ∙ is in cc)) (cases_lt 0 r))
    refl long

-- what is held when it is asked, and later
comes_by : (r held passed : ℕ)
    → (if credit_of r held == 0 then div_ceil (1000 - held) r else 0) ≤ passed
    → 1 ≤ credit_of r (refilled r held passed)
comes_by r held passed long = comes_if r held passed (r == 0) refl long

pub credit_comes : (level : Level) (now later : ℕ) → level.moment ≤ now → now + wait_in level now ≤ later
    → 1 ≤ credit_in level later
credit_comes level now later past long =
    let more : (later - level.moment) - (now - level.moment) ≡ later - now = omega arith in
    let on = filled_on level.rate level.held (now - level.moment) (later - level.moment) (omega arith) in
    let all : held_in level later ≡ refilled level.rate (held_in level now) (later - now) =
    on ∙ ap (λ n. refilled level.rate (held_in level now) n) more in
    subst (λ n. 1 ≤ credit_of level.rate n) (sym all)
    (comes_by level.rate (held_in level now) (later - now) (omega arith))

-- .. and so do both of a download's
pub lesser_comes : (levels : RunLevels) (place now later : ℕ) → levels.overall.moment ≤ now
    → (own_level levels place).moment ≤ now → now + longer_wait levels place now ≤ later
    → 1 ≤ lesser_credit levels place later
lesser_comes levels place now later all own long =
    let one = credit_comes levels.overall now later all (omega arith) in
    let other = credit_comes (own_level levels place) now later own (omega arith) in omega (arith, one, other)

-- ---- a wait is a second at most

ceil_few : (x r : ℕ) → 0 < r → div_ceil x r ≤ x
ceil_few x r some = grind (arith, div_ceil_times x r some)

wait_where : (r held : ℕ) (none : Bool) → (credit_of r held == 0) ≡ none
    → (if none then div_ceil (1000 - held) r else 0) ≤ 1000
wait_where zero held true is = absurd (let no_credit : credit_of 0 held ≡ 0 = eqb-true (credit_of 0 held) 0 is in
    omega (arith, no_credit))
wait_where (suc r) held true is = (let few = ceil_few (1000 - held) (suc r) (omega arith) in omega (arith, few))
wait_where r held false is = omega arith

pub wait_few : (level : Level) (now : ℕ) → wait_in level now ≤ 1000
wait_few level now = wait_where level.rate (held_in level now) (credit_in level now == 0) refl

pub longer_few : (levels : RunLevels) (place now : ℕ) → longer_wait levels place now ≤ 1000
longer_few levels place now =
    let one = wait_few levels.overall now in let other = wait_few (own_level levels place) now in omega (
      arith,
      one,
      other,
    )

-- Places at which other bytes came than those that are known.
use Rattle.std.proofs.Common.{◌≡◌, ◌==◌, ℕ, zero, suc, ◌+◌, ◌<◌, ◌≤◌, Bool, true, false, cond, List, [], ◌∷◌, ◌++◌, length, take, drop, set, map, replicate, Option, Some, None, refl, arith}
use Rattle.std.proofs.lemmas.Bool.{cond-true, eq-eqb}
use Rattle.memory_serving_laws.specs.Charges.{differing, next_known}

abbrev step : ℕ → ℕ → ℕ
step byte right = cond (byte == right) 0 1

step-one : (byte right : ℕ) → step byte right ≤ 1
step-one byte right = one (byte == right)
  where
    one : (b : Bool) → cond b 0 1 ≤ 1
    one true = omega arith
    one false = omega arith

step-same : (byte : ℕ) → step byte byte ≡ 0
step-same byte = cond-true (byte == byte) 0 1 (eq-eqb byte byte refl)

-- ---- more bytes

pub none_differs : (came behind : List ℕ) → differing came (map Some (came ++ behind)) ≡ 0
none_differs [] behind = refl
none_differs (byte ∷ came) behind = omega (arith, step-same byte, none_differs came behind)

-- behind places that have their bytes
pub differing_append : (came more : List ℕ) (known later : List (Option ℕ)) → length came ≡ length known
    → differing (came ++ more) (known ++ later) ≡ differing came known + differing more later
differing_append [] more [] later same = omega arith
differing_append [] more (k ∷ known) later same = absurd (omega (arith, same))
differing_append (byte ∷ came) more [] later same = absurd (omega (arith, same))
differing_append (byte ∷ came) more (None ∷ known) later same = differing_append came more known later (omega (arith, same))
differing_append (byte ∷ came) more (Some right ∷ known) later same =
    let rest = differing_append came more known later (omega (arith, same)) in
    omega (arith, rest)

-- what is known behind the last byte doesn't matter
pub differing_front : (came : List ℕ) (known later : List (Option ℕ)) → length came ≤ length known
    → differing came (known ++ later) ≡ differing came known
differing_front [] known later few = refl
differing_front (byte ∷ came) [] later few = absurd (omega (arith, few))
differing_front (byte ∷ came) (None ∷ known) later few = differing_front came known later (omega (arith, few))
differing_front (byte ∷ came) (Some right ∷ known) later few =
    let rest = differing_front came known later (omega (arith, few)) in
    omega (arith, rest)

-- with more bytes no fewer differ
pub differing_grows : (came more : List ℕ) (known : List (Option ℕ)) → differing came known ≤ differing (came ++ more) known
differing_grows [] more known = omega arith
differing_grows (byte ∷ came) more [] = omega arith
differing_grows (byte ∷ came) more (None ∷ known) = differing_grows came more known
differing_grows (byte ∷ came) more (Some right ∷ known) = let rest = differing_grows came more known in omega (arith, rest)

-- where nothing is known nothing differs
pub differing_nothing : (came : List ℕ) (n : ℕ) → differing came (replicate n None) ≡ 0
differing_nothing [] n = refl
differing_nothing (byte ∷ came) zero = refl
differing_nothing (byte ∷ came) (suc n) = differing_nothing came n

-- ---- parts of lists

differing-take : (n : ℕ) (came bytes : List ℕ) → differing (take n came) (map Some (take n bytes)) ≤ differing came (map Some bytes)
differing-take zero came bytes = omega arith
differing-take (suc n) [] bytes = omega arith
differing-take (suc n) (byte ∷ came) [] = omega arith
differing-take (suc n) (byte ∷ came) (right ∷ bytes) = let rest = differing-take n came bytes in omega (arith, rest)

differing-drop : (n : ℕ) (came bytes : List ℕ) → differing (drop n came) (map Some (drop n bytes)) ≤ differing came (map Some bytes)
differing-drop zero came bytes = omega arith
differing-drop (suc n) [] bytes = omega arith
differing-drop (suc n) (byte ∷ came) [] = differing-none (drop n came)
  where
    differing-none : (left : List ℕ) → differing left (map Some []) ≤ 0
    differing-none [] = omega arith
    differing-none (b ∷ left) = omega arith
differing-drop (suc n) (byte ∷ came) (right ∷ bytes) = let rest = differing-drop n came bytes in omega (arith, rest)

differing-self : (bytes : List ℕ) → differing bytes (map Some bytes) ≡ 0
differing-self [] = refl
differing-self (byte ∷ bytes) = omega (arith, step-same byte, differing-self bytes)

differing-set : (bytes : List ℕ) (place value : ℕ) → differing (set bytes place value) (map Some bytes) ≤ 1
differing-set [] place value = omega arith
differing-set (byte ∷ bytes) zero value = omega (arith, step-one value byte, differing-self bytes)
differing-set (byte ∷ bytes) (suc place) value = let rest = differing-set bytes place value in omega (arith, step-same byte, rest)

-- one byte of a resource is another one: in each part one differs at most
pub differs_once : (bytes : List ℕ) (place value first len : ℕ)
    → differing (take len (drop first (set bytes place value))) (map Some (take len (drop first bytes))) ≤ 1
differs_once bytes place value first len =
    let a = differing-take len (drop first (set bytes place value)) (drop first bytes) in
    let b = differing-drop first (set bytes place value) bytes in
    let c = differing-set bytes place value in
    omega (arith, a, b, c)

-- ---- the next place

pub next_one : (known : List (Option ℕ)) → next_known known ≤ 1
next_one [] = omega arith
next_one (None ∷ known) = omega arith
next_one (Some right ∷ known) = omega arith

pub next_nothing : (m n : ℕ) (later : List (Option ℕ)) → m < n → next_known (drop m (replicate n None ++ later)) ≡ 0
next_nothing m zero later few = absurd (omega (arith, few))
next_nothing zero (suc n) later few = refl
next_nothing (suc m) (suc n) later few = next_nothing m n later (omega (arith, few))

pub drop_behind : (came more : List ℕ) (known later : List (Option ℕ)) → length came ≡ length known
    → drop (length (came ++ more)) (known ++ later) ≡ drop (length more) later
drop_behind [] more [] later same = refl
drop_behind [] more (k ∷ known) later same = absurd (omega (arith, same))
drop_behind (byte ∷ came) more [] later same = absurd (omega (arith, same))
drop_behind (byte ∷ came) more (k ∷ known) later same = drop_behind came more known later (omega (arith, same))

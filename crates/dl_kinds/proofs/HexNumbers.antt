-- Numbers in hexadecimal digits.
use Rattle.std.proofs.Common.{ℕ, ◌+◌, ◌*◌, ◌^◌, ◌<◌, ◌≤◌, List, [], ◌∷◌, length, arith}
use Rattle.std.proofs.Math.Nat.{pow-succ', pow-le-pow_right}
use Rattle.std.specs.Str.Parse.{AllDigits, digits_value, digits_value_after}
use Rattle.std.specs.Char.{digit_value}

-- digits behind a number below a bound write a number below the bound with so many places more
pub digits_value_after_bound : (text : List ℕ) (n bound : ℕ) → AllDigits 16 text → n < bound → digits_value_after 16 n text < bound * 16 ^ length text
digits_value_after_bound [] n bound are below = omega arith
digits_value_after_bound (c ∷ cs) n bound are below =
    let next : digits_value_after 16 (n * 16 + digit_value c) cs < bound * 16 * 16 ^ length cs =
    digits_value_after_bound cs (n * 16 + digit_value c) (bound * 16) are.1 (omega (arith, are.0)) in
    rw (pow-succ' 16 (length cs)) (omega (arith, next))

-- at most 16 digits write a number of 64 bits
pub digits_value_bound : (text : List ℕ) → length text ≤ 16 → AllDigits 16 text → digits_value 16 text < 2 ^ 64
digits_value_bound text short are =
    let most : 16 ^ length text ≤ 16 ^ 16 = pow-le-pow_right {n = 16} (omega arith) short in
    omega (arith, digits_value_after_bound text 0 1 are (omega arith), most)

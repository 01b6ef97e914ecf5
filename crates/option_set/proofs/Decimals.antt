-- Numbers as 64 bits hold them.
use Rattle.std.proofs.Common.{◌≡◌, ℕ, ◌-◌, ◌^◌, ◌<◌, Bool, true, false, not, ◌&&◌, ◌==◌, List, [], ◌∷◌, length, Option, Some, None, refl, ◌∙◌, ap, arith, rules}
use borrow.Author.Tests.{tests}
use Rattle.std.proofs.lemmas.Str.{digit_value_digit}
use Rattle.std.specs.Str.Parse.{AllDigits, IsNumeral, digits_value}
use Rattle.std.specs.Char.{digit_value, is_ascii_digit}
use Rattle.std.specs.Int.{IsInRange}
use Rattle.std.specs.List.{list_all}
use Rattle.std.specs.Option.{option_map}
use Rattle.std.specs.Prelude.{SomeIff, unwrap_or}
use Rattle.option_set.specs.Numbers.{has_leading_zero, is_decimal, saturated}

-- a byte of "0" to "9" is a digit
digit : (byte : ℕ) → is_ascii_digit byte ≡ true → digit_value byte < 10
digit byte is =
    let range : IsInRange 48 57 byte = search (rules, tests) in
    omega (arith, digit_value_digit byte range)

both : (x y : Bool) → (x && y) ≡ true → (x ≡ true) × (y ≡ true)
both true y e = (refl, e)
both false y e = cc

digits : (text : List ℕ) → list_all is_ascii_digit text ≡ true → AllDigits 10 text
digits [] are = tt
digits (byte ∷ rest) are =
    let e = both (is_ascii_digit byte) (list_all is_ascii_digit rest) are in
    (digit byte e.0, digits rest e.1)

-- decimal digits are a numeral
pub numeral : (text : List ℕ) → is_decimal text ≡ true → IsNumeral 10 text
numeral [] is = cc
numeral (byte ∷ rest) is =
    let filled = both (not (length (byte ∷ rest) == 0)) (not (has_leading_zero (byte ∷ rest)) && list_all is_ascii_digit (byte ∷ rest)) is in
    let plain = both (not (has_leading_zero (byte ∷ rest))) (list_all is_ascii_digit (byte ∷ rest)) filled.1 in
    (omega arith, digits (byte ∷ rest) plain.1)

-- what is read of decimal digits is their number, as 64 bits hold it
pub number_read : (text : List ℕ) (number : Option ℕ) → is_decimal text ≡ true
    → SomeIff number (IsNumeral 10 text × (digits_value 10 text < 2 ^ 64)) (digits_value 10 text)
    → unwrap_or number (2 ^ 64 - 1) ≡ saturated (digits_value 10 text)
number_read text None is read =
    let large : digits_value 10 text < 2 ^ 64 → ⊥ = λ small. read (numeral text is, small) in
    omega arith
number_read text (Some number) is read = omega (arith, read.0.1, read.1)

-- a value that was read is a number's
pub record Spelled (option : Option ℕ) (value : ℕ) : Type 0 where
  pub number : ℕ
  pub is : option ≡ Some number
  pub value_is : value ≡ saturated number

pub spelled : (option : Option ℕ) (value : ℕ) → Some value ≡ option_map saturated option → Spelled option value
spelled None value e = cc
spelled (Some number) value e = record { number = number; is = refl; value_is = cc }

-- what is small was read as it is
pub small : (option : Option ℕ) (value : ℕ) → Some value ≡ option_map saturated option → value < 2 ^ 64 - 1 → option ≡ Some value
small option value e bound =
    let it = spelled option value e in
    it.is ∙ ap Some (omega (arith, it.value_is))

-- .. and where a number is spelled it is read
pub same : (option : Option ℕ) (value number : ℕ) → Some value ≡ option_map saturated option → option ≡ Some number → value ≡ saturated number
same option value number e is =
    let both : Some value ≡ Some (saturated number) = e ∙ ap (option_map saturated) is in
    cc

pub unspelled : (option : Option ℕ) (number : ℕ) → None ≡ option_map saturated option → option ≡ Some number → ⊥
unspelled None number e is = cc
unspelled (Some other) number e is = cc

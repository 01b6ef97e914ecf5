-- Numbers of an address.
use Rattle.std.proofs.Common.{◌≡◌, ℕ, ◌+◌, ◌*◌, ◌^◌, ◌<◌, ◌≤◌, inl, inr, List, [], ◌∷◌, ◌++◌, length, take, drop, get_or, arith, ap, sym, ◌∙◌, refl, subst, true}
use Rattle.std.proofs.lemmas.Bool.{cases_lt}
use Rattle.std.proofs.lemmas.Fmt.{decimal_is_IsNumeral, decimal-digits_value, first_decimal, length-decimal-le_succ}
use Rattle.std.proofs.lemmas.List.{take-append-drop}
use Rattle.std.proofs.lemmas.Str.Parse.{IsNumeralModel, numerals_by_value, tells_all_ascii_digits}
use Rattle.std.specs.Char.{digit_value}
use Rattle.std.specs.Fmt.{decimal}
use Rattle.std.specs.Str.{all_ascii_digits}
use Rattle.std.specs.Str.Parse.{AllDigits, IsNumeral, digits_value}
use Rattle.dl_kinds.specs.Decimal.{BeginsWithDigit}
use Rattle.ftp_replies.specs.Addresses.{before, HasLeadingZero, IsNumberBefore, IsAddress, TellsPort}
use Rattle.ftp_replies.specs.Fronts.{BeginsWithText}

-- digits behind which no digit stands are one run
same_run : (a b x y : List ℕ) → AllDigits 10 a → AllDigits 10 b → (BeginsWithDigit x → ⊥) → (BeginsWithDigit y → ⊥)
    → a ++ x ≡ b ++ y → (a ≡ b) × (x ≡ y)
same_run [] [] x y are_a are_b not_x not_y same = (refl, same)
same_run [] (b ∷ bs) [] y are_a are_b not_x not_y same = absurd (omega (arith, ap length same))
same_run [] (b ∷ bs) (c ∷ x) y are_a are_b not_x not_y same =
    let first : b ≡ c = ap (λ l. get_or l 0 0) (sym same) in
    absurd (not_x (subst (λ n. digit_value n < 10) first are_b.0))
same_run (a ∷ others) [] x [] are_a are_b not_x not_y same = absurd (omega (arith, ap length same))
same_run (a ∷ others) [] x (c ∷ y) are_a are_b not_x not_y same =
    let first : a ≡ c = ap (λ l. get_or l 0 0) same in
    absurd (not_y (subst (λ n. digit_value n < 10) first are_a.0))
same_run (a ∷ others) (b ∷ bs) x y are_a are_b not_x not_y same =
    let first : a ≡ b = ap (λ l. get_or l 0 0) same in
    let rests = same_run others bs x y are_a.1 are_b.1 not_x not_y (ap (drop 1) same) in
    (ap (λ l. a ∷ l) rests.0 ∙ ap (λ n. n ∷ bs) first, rests.1)

-- the digits at the front of a number, and what stands behind it
pub run_is : (bytes digits behind : List ℕ) (len end number : ℕ) (rest : List ℕ) → digits ≡ take len bytes
    → behind ≡ drop len bytes
    → AllDigits 10 (take len bytes) → (BeginsWithDigit (drop len bytes) → ⊥) → 10 ≤ digit_value end
    → IsNumberBefore end bytes number rest
    → (digits ≡ decimal number) × (behind ≡ end ∷ rest)
run_is bytes digits behind len end number rest front back are stops no_digit is =
    let small = is.0 in
    let both = same_run (take len bytes) (decimal number) (drop len bytes) (end ∷ rest) are
    (decimal_is_IsNumeral number (omega (arith, small))).0.1 stops
    (λ digit. omega (arith, digit, no_digit)) (take-append-drop len bytes ∙ is.1) in
    (front ∙ both.0, back ∙ both.1)

-- no number is written with a leading zero
pub no_leading_zero : (number : ℕ) (digits : List ℕ) → number < 256 → digits ≡ decimal number → HasLeadingZero digits
    → ⊥
no_leading_zero number digits small is zero = elim (cases_lt 0 number) [
  | inl some ↦
      let first = first_decimal number some (omega (arith, small)) in
      let same : get_or digits 0 0 ≡ get_or (decimal number) 0 0 = ap (λ l. get_or l 0 0) is in
      let leads : get_or digits 0 0 ≡ 48 = zero.1 in
      omega (arith, first, same, leads)
  | inr none ↦
      let is_zero : number ≡ 0 = omega (arith, none) in
      let long = zero.0 in
      omega (arith, long, ap length is, is_zero, length-decimal-le_succ number (omega (arith, small)))
]

numerals : IsNumeralModel (λ ds. all_ascii_digits ds ≡ true) (digits_value 10)
numerals = numerals_by_value _ tells_all_ascii_digits

-- digits without a leading zero write a number
pub written : (digits : List ℕ) → IsNumeral 10 digits → (HasLeadingZero digits → ⊥) → digits_value 10 digits < 2 ^ 64
    → decimal (digits_value 10 digits) ≡ digits
written digits numeral not_zero small =
    decimal-digits_value numerals digits (numerals.from digits numeral.1) numeral.0
    (λ zero. elim (cases_lt 1 (length digits)) [
      | inl long ↦ absurd (not_zero (long, zero))
      | inr short ↦ omega (arith, short, numeral.0)
    ]) small

-- what the digits write, where a number's stand
pub value_is : (number : ℕ) (digits : List ℕ) → number < 256 → digits ≡ decimal number
    → (IsNumeral 10 digits × (digits_value 10 digits < 2 ^ 64)) × (digits_value 10 digits ≡ number)
value_is number digits small is =
    let numeral = decimal_is_IsNumeral number (omega (arith, small)) in
    let value : digits_value 10 digits ≡ number = ap (digits_value 10) is ∙ numeral.1 in
    ((subst (IsNumeral 10) (sym is) numeral.0, omega (arith, value, small)), value)

-- a number that was read
pub made_number : (bytes digits behind rest : List ℕ) (len end number : ℕ) → digits ≡ take len bytes
    → behind ≡ drop len bytes
    → BeginsWithText (end ∷ []) behind → IsNumeral 10 digits → digits_value 10 digits < 2 ^ 64
    → number ≡ digits_value 10 digits
    → (HasLeadingZero digits → ⊥) → number ≤ 255 → rest ≡ drop 1 behind → IsNumberBefore end bytes number rest
made_number bytes digits behind rest len end number front back begins numeral fits value not_zero small rest_is =
    let text : decimal number ≡ digits = ap decimal value ∙ written digits numeral not_zero fits in
    let tail : behind ≡ end ∷ rest = begins.1 ∙ ap (λ l. end ∷ l) (ap (drop 1) (sym begins.1) ∙ sym rest_is) in
    let whole : bytes ≡ digits ++ behind =
    sym (take-append-drop len bytes) ∙ (ap (λ l. l ++ drop len bytes) (sym front) ∙ ap (λ l. digits ++ l) (sym back)) in
    (omega (arith, small), whole ∙ (ap (λ l. l ++ behind) (sym text) ∙ ap (λ l. decimal number ++ l) tail))

-- behind one number stands one rest
pub next_is : (end : ℕ) (bytes : List ℕ) (n m : ℕ) (r x : List ℕ) → 10 ≤ digit_value end → IsNumberBefore end bytes n r
    → IsNumberBefore end bytes m x
    → (n ≡ m) × (r ≡ x)
next_is end bytes n m r x no_digit is_n is_m =
    let small_n = is_n.0 in
    let small_m = is_m.0 in
    let first = decimal_is_IsNumeral n (omega (arith, small_n)) in
    let second = decimal_is_IsNumeral m (omega (arith, small_m)) in
    let both = same_run (decimal n) (decimal m) (end ∷ r) (end ∷ x) first.0.1 second.0.1
    (λ digit. omega (arith, digit, no_digit)) (λ digit. omega (arith, digit, no_digit)) (sym is_n.1 ∙ is_m.1) in
    (sym first.1 ∙ (ap (digits_value 10) both.0 ∙ second.1), ap (drop 1) both.1)

-- ---- the numbers of an address

-- what stands from each number on
abbrev pub from_low : {bytes : List ℕ} {high low : ℕ} → IsAddress bytes high low → List ℕ
from_low {bytes} {high} {low} is = before 41 low is.behind

abbrev pub from_high : {bytes : List ℕ} {high low : ℕ} → IsAddress bytes high low → List ℕ
from_high {bytes} {high} {low} is = before 44 high (from_low is)

abbrev pub from_fourth : {bytes : List ℕ} {high low : ℕ} → IsAddress bytes high low → List ℕ
from_fourth is = before 44 is.fourth (from_high is)

abbrev pub from_third : {bytes : List ℕ} {high low : ℕ} → IsAddress bytes high low → List ℕ
from_third is = before 44 is.third (from_fourth is)

abbrev pub from_second : {bytes : List ℕ} {high low : ℕ} → IsAddress bytes high low → List ℕ
from_second is = before 44 is.second (from_third is)

no_digit : 10 ≤ digit_value 44
no_digit = omega arith

module _ (bytes : List ℕ) (high low : ℕ) (is : IsAddress bytes high low) where
  -- the rests behind the numbers of an address are its own
  pub behind_first : (n : ℕ) (r : List ℕ) → IsNumberBefore 44 (drop 1 bytes) n r → r ≡ from_second is
  behind_first n r number =
      (next_is 44 (drop 1 bytes) n is.first r (from_second is) no_digit number (is.host.0, ap (drop 1) is.is)).1

  pub behind_second : (from : List ℕ) (n : ℕ) (r : List ℕ) → from ≡ from_second is → IsNumberBefore 44 from n r
      → r ≡ from_third is
  behind_second from n r same number =
      (next_is 44 from n is.second r (from_third is) no_digit number (is.host.1, same)).1

  pub behind_third : (from : List ℕ) (n : ℕ) (r : List ℕ) → from ≡ from_third is → IsNumberBefore 44 from n r
      → r ≡ from_fourth is
  behind_third from n r same number =
      (next_is 44 from n is.third r (from_fourth is) no_digit number (is.host.2, same)).1

  pub behind_fourth : (from : List ℕ) (n : ℕ) (r : List ℕ) → from ≡ from_fourth is → IsNumberBefore 44 from n r
      → r ≡ from_high is
  behind_fourth from n r same number =
      (next_is 44 from n is.fourth r (from_high is) no_digit number (is.host.3, same)).1

  pub high_is : (from : List ℕ) (n : ℕ) (r : List ℕ) → from ≡ from_high is → IsNumberBefore 44 from n r
      → (n ≡ high) × (r ≡ from_low is)
  high_is from n r same number = next_is 44 from n high r (from_low is) no_digit number (is.port.0, same)

-- an address that was read
pub made_address : (bytes r1 r2 r3 r4 r5 r6 : List ℕ) (a b c d high low : ℕ) → BeginsWithText (40 ∷ []) bytes
    → IsNumberBefore 44 (drop 1 bytes) a r1 → IsNumberBefore 44 r1 b r2 → IsNumberBefore 44 r2 c r3 → IsNumberBefore 44 r3 d r4
    → IsNumberBefore 44 r4 high r5
    → IsNumberBefore 41 r5 low r6 → IsAddress bytes high low
made_address bytes r1 r2 r3 r4 r5 r6 a b c d high low begins n1 n2 n3 n4 n5 n6 = record {
  first = a;
  second = b;
  third = c;
  fourth = d;
  behind = r6;
  host = (n1.0, n2.0, n3.0, n4.0);
  port = (n5.0, n6.0);
  is = begins.1 ∙ ap (λ l. 40 ∷ l) (ap (drop 1) (sym begins.1) ∙ (n1.1 ∙ ap (before 44 a) (n2.1 ∙ ap (before 44 b) (n3.1
      ∙ ap (before 44 c) (n4.1 ∙ ap (before 44 d) (n5.1 ∙ ap (before 44 high) n6.1))))));
}

no_digit_41 : 10 ≤ digit_value 41
no_digit_41 = omega arith

-- bytes begin with one address
pub one_address : (bytes : List ℕ) (h l high low : ℕ) → IsAddress bytes h l → IsAddress bytes high low
    → (h ≡ high) × (l ≡ low)
one_address bytes h l high low a is =
    let second = behind_first bytes high low is a.first (from_second a) (a.host.0, ap (drop 1) a.is) in
    let third = behind_second bytes high low is (from_second a) a.second (from_third a) second (a.host.1, refl) in
    let fourth = behind_third bytes high low is (from_third a) a.third (from_fourth a) third (a.host.2, refl) in
    let port = behind_fourth bytes high low is (from_fourth a) a.fourth (from_high a) fourth (a.host.3, refl) in
    let both = high_is bytes high low is (from_high a) h (from_low a) port (a.port.0, refl) in
    let last = next_is 41 (from_low a) l low a.behind is.behind no_digit_41 (a.port.1, refl) (is.port.1, both.1) in
    (both.0, last.0)

-- the first address of a line has one port
pub one_port : (line : List ℕ) (at high low : ℕ) →
    ((place : ℕ) → place < at → (p1 p2 : ℕ) → IsAddress (drop place line) p1 p2 → ⊥)
    → IsAddress (drop at line) high low → (port : ℕ) → TellsPort line port → port ≡ high * 256 + low
one_port line at high low none found port told =
    let later : told.at < at → ⊥ = λ before. none told.at before told.high told.low told.found in
    let earlier : at < told.at → ⊥ = λ before. told.none_before at before high low found in
    let same : told.at ≡ at = omega (arith, later, earlier) in
    let here : IsAddress (drop at line) told.high told.low = subst
    (λ n. IsAddress (drop n line) told.high told.low) same told.found in
    let both = one_address (drop at line) told.high told.low high low here found in
    told.is ∙ (ap (λ n. n * 256 + told.low) both.0 ∙ ap (λ n. high * 256 + n) both.1)

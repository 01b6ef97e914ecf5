-- A number that is read is the number that was written, and what was written is read again.
use Rattle.std.proofs.Common.{◌≡◌, ◌≢◌, ℕ, zero, suc, ◌^◌, ◌<◌, ◌≤◌, Bool, true, false, cond, List, [], ◌∷◌, ◌++◌, length, get_or, take, drop, Option, Some, None, refl, ◌∙◌, ap, arith, inl, inr}
use Rattle.std.specs.Prelude.{option_map}
use Rattle.std.specs.Char.{is_ascii_digit, digit_value}
use Rattle.std.specs.Str.Parse.{AllDigits, digits_value}
use Rattle.std.specs.Fmt.{decimal}
use Rattle.std.proofs.lemmas.Bool.{cases_eq, cases_lt, cases_Bool, eqb-true, eq-eqb, ne_eqb}
use Rattle.std.proofs.lemmas.Bool.Decides.{nat_tests}
use Rattle.std.proofs.lemmas.List.{take_at, drop_at, length-drop}
use Rattle.std.proofs.lemmas.List.Sums.{take_while-cons}
use Rattle.std.proofs.lemmas.Fmt.{decimal_is_IsNumeral, decimal-digits_value, first_decimal, decimal_digit}
use Rattle.std.proofs.lemmas.Str.Parse.{numerals_by_value, tells_digits}
use Rattle.dl_kinds.specs.Decimal.{BeginsWithDigit}
use Rattle.bencode_core.specs.Reading.{begins, digits_at, canonical_number, number_at}

-- ---- digits

digit_value_is : (b : ℕ) → is_ascii_digit b ≡ true → digit_value b < 10
digit_value_is b is = grind (arith, nat_tests)

pub digit_is : (b : ℕ) → digit_value b < 10 → is_ascii_digit b ≡ true
digit_is b lt = grind (arith, nat_tests)

pub digits_are : (bytes : List ℕ) → AllDigits 10 (digits_at bytes)
digits_are [] = tt
digits_are (b ∷ bytes) =
    elim (cases_Bool (is_ascii_digit b)) [
      | inl is ↦ rw (take_while-cons is_ascii_digit b bytes, is) (digit_value_is b is, digits_are bytes)
      | inr not ↦ rw (take_while-cons is_ascii_digit b bytes, not) tt
    ]

-- digits end at the first byte that is none
pub digits_at_end : (ds : List ℕ) (c : ℕ) (rest : List ℕ) → AllDigits 10 ds → is_ascii_digit c ≡ false → digits_at (ds ++ c ∷ rest) ≡ ds
digits_at_end [] c rest are stop = rw (take_while-cons is_ascii_digit c rest, stop) refl
digits_at_end (d ∷ ds) c rest are stop = rw (take_while-cons is_ascii_digit d (ds ++ c ∷ rest), digit_is d are.0) (ap (λ (xs : List ℕ). d ∷ xs) (digits_at_end ds c rest are.1 stop))

pub split_digits : (bytes : List ℕ) → bytes ≡ digits_at bytes ++ drop (length (digits_at bytes)) bytes
split_digits [] = refl
split_digits (b ∷ bytes) =
    elim (cases_Bool (is_ascii_digit b)) [
      | inl is ↦ rw (take_while-cons is_ascii_digit b bytes, is) (ap (λ (xs : List ℕ). b ∷ xs) (split_digits bytes))
      | inr not ↦ rw (take_while-cons is_ascii_digit b bytes, not) refl
    ]

-- ---- numbers

-- digits with no leading zero but 0 itself, and their number
number_of_text : (ds : List ℕ) → 0 < length ds → (2 ≤ length ds → get_or ds 0 0 ≢ 48) → canonical_number ds ≡ Some (digits_value 10 ds)
number_of_text [] some first = absurd (omega arith)
number_of_text (d ∷ []) some first = refl
number_of_text (d ∷ e ∷ ds) some first = rw (ne_eqb d 48 (first (omega arith))) refl

number_of_decimal : (n : ℕ) → n < 2 ^ 64 → canonical_number (decimal n) ≡ Some n
number_of_decimal n fits =
    let is = decimal_is_IsNumeral n fits in
    number_of_text (decimal n) is.0.0 (λ long zero_first.
    elim (cases_lt 0 n) [
      | inl above ↦ omega (arith, first_decimal n above fits)
      | inr none ↦
          let zero_is : n ≡ 0 = omega arith in
          let digit : decimal n ≡ 48 ∷ [] = rw zero_is (decimal_digit 0 (omega arith)) in
          omega (arith, ap length digit)
    ]) ∙ ap Some is.1

from_value : (ds : List ℕ) (n : ℕ) → AllDigits 10 ds → 0 < length ds → (get_or ds 0 0 ≡ 48 → length ds ≡ 1) → digits_value 10 ds ≡ n → n < 2 ^ 64 → decimal n ≡ ds
from_value ds n are some first is fits =
    let value_fits : digits_value 10 ds < 2 ^ 64 = omega arith in
    rw (← is) (decimal-digits_value (numerals_by_value (AllDigits 10) tells_digits) ds are some first value_fits)

pub some_is : {A : Type 0} (x y : A) → Some x ≡ Some y → x ≡ y
some_is x y e = cc

decimal_of_number : (ds : List ℕ) (n : ℕ) → AllDigits 10 ds → canonical_number ds ≡ Some n → n < 2 ^ 64 → decimal n ≡ ds
decimal_of_number [] n are is fits = absurd cc
decimal_of_number (d ∷ []) n are is fits = from_value (d ∷ []) n are (omega arith) (λ zero_first. refl) (some_is _ _ is) fits
decimal_of_number (d ∷ e ∷ ds) n are is fits =
    elim (cases_eq d 48) [
      | inl zero_first ↦ let none : None ≡ Some n = rw (eq-eqb d 48 zero_first) at is in absurd cc
      | inr other ↦ from_value (d ∷ e ∷ ds) n are (omega arith) (λ zero_first. absurd (other zero_first)) (some_is _ _ (rw (ne_eqb d 48 other) at is)) fits
    ]

-- a test and a value that are both there
pub guarded : {A : Type 0} (b : Bool) (o : Option A) (x : A) → cond b o None ≡ Some x → (b ≡ true) × (o ≡ Some x)
guarded true o x e = (refl, e)
guarded false o x e = absurd cc

pub mapped : {A B : Type 0} (f : A → B) (o : Option A) (y : B) → option_map f o ≡ Some y → (x : A) × (o ≡ Some x) × (f x ≡ y)
mapped f None y e = absurd cc
mapped f (Some x) y e = (x, refl, some_is _ _ e)

pub begins_with : (byte : ℕ) (bytes : List ℕ) → begins byte bytes ≡ true → bytes ≡ byte ∷ drop 1 bytes
begins_with byte [] is = absurd cc
begins_with byte (b ∷ bytes) is = ap (λ (x : ℕ). x ∷ bytes) (eqb-true b byte is)

-- what number_at takes
pub number_takes : (end : ℕ) (bytes : List ℕ) (n : ℕ) (rest : List ℕ) → number_at end bytes ≡ Some (n, rest) → n < 2 ^ 64 → bytes ≡ decimal n ++ end ∷ rest
unfolding number_at
number_takes end bytes n rest is fits =
    let behind = drop (length (digits_at bytes)) bytes in
    let g = guarded (begins end behind) (option_map (λ k. (k, drop 1 behind)) (canonical_number (digits_at bytes))) (n, rest) is in
    let m = mapped (λ (k : ℕ). (k, drop 1 behind)) (canonical_number (digits_at bytes)) (n, rest) g.1 in
    let number : m.0 ≡ n = ap (λ (p : ℕ × List ℕ). p.0) m.2 in
    let rest_is : drop 1 behind ≡ rest = ap (λ (p : ℕ × List ℕ). p.1) m.2 in
    let digits : decimal n ≡ digits_at bytes = decimal_of_number (digits_at bytes) n (digits_are bytes) (m.1 ∙ ap Some number) fits in
    split_digits bytes ∙ ap (λ (xs : List ℕ). digits_at bytes ++ xs) (begins_with end behind g.0) ∙ rw (digits, rest_is) refl

pub number_again : (end n : ℕ) (rest : List ℕ) → is_ascii_digit end ≡ false → n < 2 ^ 64 → number_at end (decimal n ++ end ∷ rest) ≡ Some (n, rest)
unfolding number_at
number_again end n rest stop fits =
    let digits : digits_at (decimal n ++ end ∷ rest) ≡ decimal n = digits_at_end (decimal n) end rest (decimal_is_IsNumeral n fits).0.1 stop in
    let behind : drop (length (decimal n)) (decimal n ++ end ∷ rest) ≡ end ∷ rest = drop_at (decimal n) (end ∷ rest) (length (decimal n)) refl in
    rw (digits, behind, number_of_decimal n fits, eq-eqb end end refl) refl

pub number_rest : (end : ℕ) (bytes : List ℕ) (n : ℕ) (rest : List ℕ) → number_at end bytes ≡ Some (n, rest) → length rest ≤ length bytes
unfolding number_at
number_rest end bytes n rest is =
    let behind = drop (length (digits_at bytes)) bytes in
    let g = guarded (begins end behind) (option_map (λ k. (k, drop 1 behind)) (canonical_number (digits_at bytes))) (n, rest) is in
    let m = mapped (λ (k : ℕ). (k, drop 1 behind)) (canonical_number (digits_at bytes)) (n, rest) g.1 in
    let rest_is : drop 1 behind ≡ rest = ap (λ (p : ℕ × List ℕ). p.1) m.2 in
    rw (← rest_is) (omega (arith, length-drop 1 behind, length-drop (length (digits_at bytes)) bytes))

-- ---- what the code finds

-- as many digits as pass are all of them
pub digits_len_is : (bytes : List ℕ) (n : ℕ) → n ≤ length bytes → AllDigits 10 (take n bytes) → (BeginsWithDigit (drop n bytes) → ⊥) → n ≡ length (digits_at bytes)
digits_len_is [] n within are stops = omega arith
digits_len_is (b ∷ bytes) zero within are stops =
    elim (cases_Bool (is_ascii_digit b)) [
      | inl is ↦ absurd (stops (digit_value_is b is))
      | inr not ↦ rw (take_while-cons is_ascii_digit b bytes, not) refl
    ]
digits_len_is (b ∷ bytes) (suc n) within are stops = rw (take_while-cons is_ascii_digit b bytes, digit_is b are.0) (ap suc (digits_len_is bytes n (omega arith) are.1 stops))

pub take_digits : (bytes : List ℕ) → take (length (digits_at bytes)) bytes ≡ digits_at bytes
take_digits bytes = ap (take (length (digits_at bytes))) (split_digits bytes) ∙ take_at (digits_at bytes) (drop (length (digits_at bytes)) bytes) (length (digits_at bytes)) refl

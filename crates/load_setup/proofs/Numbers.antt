-- Numbers in decimal without a leading zero, and words that are alone.
use Rattle.std.proofs.Common.{◌≡◌, ◌≢◌, ℕ, ◌<◌, ◌≤◌, ◌^◌, List, [], ◌∷◌, Option, Some, None, length, get_or, suc, zero, arith, sym, ap}
use Rattle.std.proofs.lemmas.Fmt.{decimal_is_IsNumeral, decimal-digits_value, decimal_digit, first_decimal}
use Rattle.std.proofs.lemmas.Str.Parse.{IsNumeralModel, numerals_by_value, tells_digits}
use Rattle.std.specs.Fmt.{decimal}
use Rattle.std.specs.Option.{MatchOption, SomeIff}
use Rattle.std.specs.Str.Parse.{AllDigits, IsNumeral, digits_value}
use Rattle.load_setup.specs.Words.{asking_word}

digits_model : IsNumeralModel (AllDigits 10) (digits_value 10)
digits_model = numerals_by_value (AllDigits 10) tells_digits

-- a numeral without a leading zero is what `decimal` writes of its value
decimal_of_numeral : (ds : List ℕ) → IsNumeral 10 ds → digits_value 10 ds < 2 ^ 64 → (get_or ds 0 0 ≡ 48 → length ds ≤ 1) → ds ≡ decimal (digits_value 10 ds)
decimal_of_numeral ds is small no_zero = sym (decimal-digits_value digits_model ds is.1 is.0 (λ zero. let short : length ds ≤ 1 = no_zero zero in let some : 0 < length ds = is.0 in omega arith) small)

-- what `decimal` writes has a leading zero only where it is short
pub decimal_leads : (n : ℕ) → n < 2 ^ 64 → get_or (decimal n) 0 0 ≡ 48 → length (decimal n) ≤ 1
decimal_leads zero small zero_first = rw (decimal_digit 0 (omega arith)) (omega arith)
decimal_leads (suc n) small zero_first = absurd (let above : 48 < get_or (decimal (suc n)) 0 0 = first_decimal (suc n) (omega arith) small in omega arith)

-- what is read as a numeral without a leading zero
pub plain_read : (ds : List ℕ) (read : Option ℕ) → SomeIff read (IsNumeral 10 ds × (digits_value 10 ds < 2 ^ 64)) (digits_value 10 ds)
    → (get_or ds 0 0 ≡ 48 → length ds ≤ 1)
    → MatchOption read ((n : ℕ) → n < 2 ^ 64 → ds ≢ decimal n) (λ n. ds ≡ decimal n)
plain_read ds None none leads = λ n small same.
    let is = decimal_is_IsNumeral n small in
    none (rw same (is.0, rw is.1 small))
plain_read ds (Some n) some leads = rw some.1 (decimal_of_numeral ds some.0.0 some.0.1 leads)

-- a list of one
pub one_of_one : {A : Type 0} (xs : List A) (x : A) → 1 ≤ length xs → length xs ≤ 1 → x ≡ get_or xs 0 x → xs ≡ x ∷ []
one_of_one [] x some few is = absurd (omega arith)
one_of_one (y ∷ []) x some few is = ap (λ z. z ∷ []) (sym is)
one_of_one (y ∷ z ∷ xs) x some few is = absurd (omega arith)

-- what a word asks for, it asks for alone
pub asked_alone : (word : List ℕ) (read : Option ℕ)
    → MatchOption read ((n : ℕ) → n < 2 ^ 64 → word ≢ asking_word n) (λ n. word ≡ asking_word n)
    → MatchOption read ((n : ℕ) → n < 2 ^ 64 → word ∷ [] ≢ asking_word n ∷ []) (λ n. word ∷ [] ≡ asking_word n ∷ [])
asked_alone word None none = λ n small same. none n small cc
asked_alone word (Some n) is = ap (λ w. w ∷ []) is

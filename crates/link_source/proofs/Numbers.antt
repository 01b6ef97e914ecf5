-- Numbers in decimal, as `decimal` writes them, behind a mark.
use Rattle.std.proofs.Common.{◌≡◌, ◌≢◌, ℕ, ◌<◌, ◌≤◌, ◌^◌, List, [], ◌∷◌, ◌++◌, Option, Some, None, length, get_or, suc, zero, arith, refl, sym, ◌∙◌, append_assoc}
use Rattle.std.proofs.lemmas.Fmt.{decimal_is_IsNumeral, decimal-digits_value, decimal_digit, first_decimal, decimal_injective}
use Rattle.std.proofs.lemmas.Str.Parse.{IsNumeralModel, numerals_by_value, tells_digits}
use Rattle.std.specs.Char.{digit_value}
use Rattle.std.specs.Fmt.{decimal}
use Rattle.std.specs.List.{Contains}
use Rattle.std.specs.Option.{MatchOption, SomeIff}
use Rattle.std.specs.Str.Parse.{AllDigits, IsNumeral, digits_value}

digits_model : IsNumeralModel (AllDigits 10) (digits_value 10)
digits_model = numerals_by_value (AllDigits 10) tells_digits

-- a numeral without a leading zero is what `decimal` writes of its value
pub decimal_of_numeral : (ds : List ℕ) → IsNumeral 10 ds → digits_value 10 ds < 2 ^ 64 → (get_or ds 0 0 ≡ 48 → length ds ≤ 1) → ds ≡ decimal (digits_value 10 ds)
decimal_of_numeral ds is small no_zero = sym (decimal-digits_value digits_model ds is.1 is.0 (λ zero. let short : length ds ≤ 1 = no_zero zero in let some : 0 < length ds = is.0 in omega arith) small)

-- what `decimal` writes has a leading zero only where it is short
pub decimal_leads : (n : ℕ) → n < 2 ^ 64 → get_or (decimal n) 0 0 ≡ 48 → length (decimal n) ≤ 1
decimal_leads zero small zero_first = rw (decimal_digit 0 (omega arith)) (omega arith)
decimal_leads (suc n) small zero_first = absurd (let above : 48 < get_or (decimal (suc n)) 0 0 = first_decimal (suc n) (omega arith) small in omega arith)

digit_at : (ds : List ℕ) (k d : ℕ) → AllDigits 10 ds → k < length ds → digit_value (get_or ds k d) < 10
digit_at [] k d are within = absurd (omega arith)
digit_at (x ∷ xs) zero d are within = are.0
digit_at (x ∷ xs) (suc k) d are within = digit_at xs k d are.1 (omega arith)

-- no mark stands in a number
pub no_mark : (mark n : ℕ) → 10 ≤ digit_value mark → n < 2 ^ 64 → Contains (decimal n) mark → ⊥
no_mark mark n other small (k, within, found) =
    let digit : digit_value (get_or (decimal n) k mark) < 10 = digit_at (decimal n) k mark (decimal_is_IsNumeral n small).0.1 within in
    let same : digit_value mark < 10 = rw found at digit in
    omega arith

mark_stands : (mark : ℕ) (front back : List ℕ) → Contains (front ++ mark ∷ back) mark
mark_stands mark [] back = (0, omega arith, refl)
mark_stands mark (x ∷ front) back = let rest = mark_stands mark front back in (suc rest.0, (let within : rest.0 < length (front ++ mark ∷ back) = rest.1 in omega arith), rest.2)

-- a list is split at the last mark in one way
pub one_split : (mark : ℕ) (front back front' back' : List ℕ) → (Contains back mark → ⊥) → (Contains back' mark → ⊥)
    → front ++ mark ∷ back ≡ front' ++ mark ∷ back' → (front ≡ front') × (back ≡ back')
one_split mark [] back [] back' none none' same = (refl, cc)
one_split mark [] back (x ∷ front') back' none none' same =
    let tail : back ≡ front' ++ mark ∷ back' = cc in
    absurd (none (rw tail (mark_stands mark front' back')))
one_split mark (x ∷ front) back [] back' none none' same =
    let tail : back' ≡ front ++ mark ∷ back = cc in
    absurd (none' (rw tail (mark_stands mark front back)))
one_split mark (x ∷ front) back (x' ∷ front') back' none none' same =
    let rest = one_split mark front back front' back' none none' cc in
    let fronts : front ≡ front' = rest.0 in
    (cc, rest.1)

-- a number behind a mark is read in one way
pub one_number : (mark : ℕ) (front front' : List ℕ) (n n' : ℕ) → 10 ≤ digit_value mark → n < 2 ^ 64 → n' < 2 ^ 64
    → front ++ mark ∷ [] ++ decimal n ≡ front' ++ mark ∷ [] ++ decimal n' → (front ≡ front') × (n ≡ n')
one_number mark front front' n n' other small small' same =
    let parts = one_split mark front (decimal n) front' (decimal n') (no_mark mark n other small) (no_mark mark n' other small')
    (sym (append_assoc front (mark ∷ []) (decimal n)) ∙ same ∙ append_assoc front' (mark ∷ []) (decimal n')) in
    (parts.0, decimal_injective n n' small small' parts.1)

-- what is read as a numeral without a leading zero
pub plain_read : (ds : List ℕ) (read : Option ℕ) → SomeIff read (IsNumeral 10 ds × (digits_value 10 ds < 2 ^ 64)) (digits_value 10 ds)
    → (get_or ds 0 0 ≡ 48 → length ds ≤ 1)
    → MatchOption read ((n : ℕ) → n < 2 ^ 64 → ds ≢ decimal n) (λ n. ds ≡ decimal n)
plain_read ds None none leads = λ n small same.
    let is = decimal_is_IsNumeral n small in
    none (rw same (is.0, rw is.1 small))
plain_read ds (Some n) some leads = rw some.1 (decimal_of_numeral ds some.0.0 some.0.1 leads)

-- no number stands behind the last mark
pub no_number : (bytes front digits : List ℕ) (mark : ℕ) → 10 ≤ digit_value mark → bytes ≡ front ++ mark ∷ [] ++ digits → (Contains digits mark → ⊥)
    → ((n : ℕ) → n < 2 ^ 64 → digits ≢ decimal n) → (front' : List ℕ) (n : ℕ) → n < 2 ^ 64 → bytes ≢ front' ++ mark ∷ [] ++ decimal n
no_number bytes front digits mark other split none never front' n small same =
    never n small (one_split mark front digits front' (decimal n) none (no_mark mark n other small)
    (sym (append_assoc front (mark ∷ []) digits) ∙ sym split ∙ same ∙ append_assoc front' (mark ∷ []) (decimal n))).1

-- Numbers as the ends of a range.
use Rattle.std.proofs.Common.{◌≡◌, ℕ, ◌^◌, ◌<◌, List, true, length}
use Rattle.std.specs.Prelude.{Some, None, ◌&&◌, nat_lt}
use Rattle.std.specs.Str.{all_ascii_digits}
use Rattle.std.specs.Str.Parse.{IsNumeral, digits_value}
use Rattle.std.proofs.lemmas.Bool.{and_parts, and_from, ltb-true, lt-ltb, cond-true, cond-false, false_from_ne_true}
use Rattle.std.proofs.lemmas.Str.Parse.{IsNumeralModel, numerals_by_value, tells_all_ascii_digits}
use Rattle.range_http.specs.Range.{is_number, number_of}

tells : IsNumeralModel (λ ds. all_ascii_digits ds ≡ true) (digits_value 10)
tells = numerals_by_value _ tells_all_ascii_digits

is_number-true : (text : List ℕ) → is_number text ≡ true → IsNumeral 10 text × (digits_value 10 text < 2 ^ 63)
is_number-true text is =
    let outer = and_parts (nat_lt 0 (length text) && all_ascii_digits text) (nat_lt (digits_value 10 text) (2 ^ 63)) is in
    let inner = and_parts (nat_lt 0 (length text)) (all_ascii_digits text) outer.0 in
    ((ltb-true _ _ inner.0, tells.to text inner.1), ltb-true _ _ outer.1)

-- digits that write a number below 2 ^ 63
pub end_is_some : (text : List ℕ) → IsNumeral 10 text → digits_value 10 text < 2 ^ 63
    → number_of text ≡ Some (digits_value 10 text)
end_is_some text is below =
    cond-true (is_number text) _ _ (and_from _ _ (and_from _ _ (lt-ltb _ _ is.0) (tells.from text is.1)) (lt-ltb _ _ below))

-- other bytes, and digits that write a greater one
pub end_is_none : (text : List ℕ) → (IsNumeral 10 text → digits_value 10 text < 2 ^ 63 → ⊥) → number_of text ≡ None
end_is_none text not_one =
    cond-false (is_number text) _ _
    (false_from_ne_true _ (λ is. let both = is_number-true text is in not_one both.0 both.1))

-- The length that a text of digits writes.
use Rattle.std.proofs.Common.{◌≡◌, ℕ, ◌^◌, ◌<◌, List, true, false, [], ◌∷◌, length, ap, ◌∙◌, refl}
use Rattle.std.specs.Prelude.{nat_lt, ◌&&◌}
use Rattle.std.specs.Char.{is_ascii_digit}
use Rattle.std.specs.List.{list_all}
use Rattle.std.specs.Str.{all_ascii_digits}
use Rattle.std.specs.Str.Parse.{IsNumeral, digits_value}
use Rattle.std.proofs.lemmas.Bool.{and_parts, ltb-true, lt-ltb, cond-true, cond-false, false_from_ne_true}
use Rattle.std.proofs.lemmas.Str.Parse.{IsNumeralModel, numerals_by_value, tells_all_ascii_digits}
use Rattle.http_heads.specs.Content.{are_digits, digits_number, content_length_by}
use Rattle.http_heads.specs.declared.content.ContentLength.TheVariants.{Bytes, Beyond, Unclear}

tells : IsNumeralModel (λ ds. all_ascii_digits ds ≡ true) (digits_value 10)
tells = numerals_by_value _ tells_all_ascii_digits

all_digits : (text : List ℕ) → all_ascii_digits text ≡ list_all is_ascii_digit text
all_digits [] = refl
all_digits (byte ∷ text) = ap (λ rest. is_ascii_digit byte && rest) (all_digits text)

pub no_digits : (text : List ℕ) → are_digits text ≡ false → content_length_by (digits_number text) ≡ Unclear
no_digits text are = ap content_length_by (cond-false (are_digits text) _ _ are)

pub few_digits : (text : List ℕ) → are_digits text ≡ true → digits_value 10 text < 2 ^ 64
    → content_length_by (digits_number text) ≡ Bytes (digits_value 10 text)
few_digits text are below =
    ap content_length_by (cond-true (are_digits text) _ _ are)
    ∙ cond-true (nat_lt (digits_value 10 text) (2 ^ 64)) _ _ (lt-ltb _ _ below)

pub many_digits : (text : List ℕ) → are_digits text ≡ true → (IsNumeral 10 text × (digits_value 10 text < 2 ^ 64) → ⊥)
    → content_length_by (digits_number text) ≡ Beyond
many_digits text are over =
    let parts = and_parts (nat_lt 0 (length text)) (list_all is_ascii_digit text) are in
    let numeral : IsNumeral 10 text = (ltb-true _ _ parts.0, tells.to text (all_digits text ∙ parts.1)) in
    ap content_length_by (cond-true (are_digits text) _ _ are)
    ∙ cond-false (nat_lt (digits_value 10 text) (2 ^ 64)) _ _ (false_from_ne_true _ (λ is. over (numeral, ltb-true _ _ is)))

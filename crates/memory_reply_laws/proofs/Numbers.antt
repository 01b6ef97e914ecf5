-- Decimal numbers as values of fields.
use Rattle.std.proofs.Common.{◌≡◌, ℕ, ◌<◌, ◌≤◌, ◌^◌, Bool, List, [], ◌∷◌, ◌++◌, length, reverse, arith, ap, sym, ◌∙◌, refl, true}
use Rattle.std.proofs.lemmas.Bool.{cond-false, and_from, or_right, le-leb, ne_eqb, not-true}
use Rattle.std.proofs.lemmas.Fmt.{decimal_is_IsNumeral, decimal_nonempty, length-decimal-le}
use Rattle.std.proofs.lemmas.List.{length-reverse, reverse-append}
use Rattle.std.proofs.lemmas.List.Elements.{All-nil, All-cons, All-head, All-append}
use Rattle.std.proofs.lemmas.List.Sums.{AllPass-from_list_all}
use Rattle.std.proofs.lemmas.Str.Parse.{digit_from_value}
use Rattle.std.specs.Fmt.{decimal}
use Rattle.std.specs.List.{list_all}
use Rattle.std.specs.Prelude.{IsTrue, not, ◌||◌, ◌==◌}
use Rattle.std.specs.Str.Parse.{AllDigits}
use Rattle.httparse.proofs.TrimLemmas.{AllPass-reverse}
use Rattle.httparse.specs.Grammar.{AllPass, is_value_byte, is_ows, skip_ows}
use Rattle.range_http.specs.Range.{WritesNumber}
use Rattle.memory_reply_laws.proofs.Written.{IsValue}

pub is_number : (n : ℕ) → n < 2 ^ 63 → WritesNumber (decimal n) n
is_number n small =
    let is = decimal_is_IsNumeral n (omega arith) in
    record { digits = is.0; value = is.1; small = small }

-- at most 20 digits
pub decimal_short : (n : ℕ) → n < 2 ^ 63 → length (decimal n) ≤ 20
decimal_short n small = length-decimal-le 20 n (omega arith) (omega arith) (omega arith)

-- a test that each digit passes
digits-pass : (test : ℕ → Bool) → ((c : ℕ) → 48 ≤ c → c ≤ 57 → test c ≡ true) → (ds : List ℕ) → AllDigits 10 ds → AllPass test ds
digits-pass test each [] are = All-nil (λ b. IsTrue (test b))
digits-pass test each (c ∷ ds) are =
    let within = digit_from_value c are.0 in
    All-cons (λ b. IsTrue (test b)) c ds (each c (omega (arith, within)) (omega (arith, within))) (digits-pass test each ds are.1)

abbrev pub is_bare : ℕ → Bool
is_bare b = not (is_ows b)

digit-is-bare : (c : ℕ) → 48 ≤ c → c ≤ 57 → is_bare c ≡ true
digit-is-bare c low high =
    ap (λ t. not (t || (c == 9))) (ne_eqb c 32 (λ e. omega (arith, e, low))) ∙ ap not (ne_eqb c 9 (λ e. omega (arith, e, low)))

digit-is-value : (c : ℕ) → 48 ≤ c → c ≤ 57 → is_value_byte c ≡ true
digit-is-value c low high =
    or_right _ _ (and_from _ _ (le-leb 32 c (omega (arith, low))) (ap not (ne_eqb c 127 (λ e. omega (arith, e, high)))))

pub decimal_bytes : (n : ℕ) → n < 2 ^ 63 → AllPass is_value_byte (decimal n)
decimal_bytes n small = digits-pass is_value_byte digit-is-value (decimal n) (decimal_is_IsNumeral n (omega arith)).0.1

decimal-bare : (n : ℕ) → n < 2 ^ 63 → AllPass is_bare (decimal n)
decimal-bare n small = digits-pass is_bare digit-is-bare (decimal n) (decimal_is_IsNumeral n (omega arith)).0.1

-- bytes of values that are written out, and one behind another
pub values_pass : (bytes : List ℕ) → list_all is_value_byte bytes ≡ true → AllPass is_value_byte bytes
values_pass = AllPass-from_list_all is_value_byte

pub joined : (front bytes : List ℕ) → AllPass is_value_byte front → AllPass is_value_byte bytes → AllPass is_value_byte (front ++ bytes)
joined = All-append (λ b. IsTrue (is_value_byte b))

-- ---- white space

no-blank : (b : ℕ) (bytes : List ℕ) → is_bare b ≡ true → skip_ows (b ∷ bytes) ≡ b ∷ bytes
no-blank b bytes is = cond-false _ _ _ (not-true (is_ows b) is)

pub bare : (bytes : List ℕ) → AllPass is_bare bytes → skip_ows bytes ≡ bytes
bare [] are = refl
bare (b ∷ bytes) are = no-blank b bytes (All-head (λ b. IsTrue (is_bare b)) b bytes are)

bare-front : (front bytes : List ℕ) → 0 < length front → AllPass is_bare front → skip_ows (front ++ bytes) ≡ front ++ bytes
bare-front [] bytes some are = absurd (omega arith)
bare-front (b ∷ front) bytes some are = no-blank b (front ++ bytes) (All-head (λ b. IsTrue (is_bare b)) b front are)

pub decimal_value : (n : ℕ) → n < 2 ^ 63 → IsValue (decimal n)
decimal_value n small = record {
  bytes = decimal_bytes n small;
  front = bare (decimal n) (decimal-bare n small);
  back = bare (reverse (decimal n)) (AllPass-reverse is_bare (decimal n) (decimal-bare n small));
}

-- a number behind other bytes
pub value_behind : (front : List ℕ) (n : ℕ) → n < 2 ^ 63 → AllPass is_value_byte front → skip_ows (front ++ decimal n) ≡ front ++ decimal n
    → IsValue (front ++ decimal n)
value_behind front n small are starts = record {
  bytes = All-append (λ b. IsTrue (is_value_byte b)) front (decimal n) are (decimal_bytes n small);
  front = starts;
  back =
      let turned = reverse-append front (decimal n) in
      ap skip_ows turned
      ∙ bare-front (reverse (decimal n)) (reverse front) (omega (arith, length-reverse (decimal n), decimal_nonempty n (omega arith))) (AllPass-reverse is_bare (decimal n) (decimal-bare n small))
      ∙ sym turned;
}

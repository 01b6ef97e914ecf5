-- The text of a size line, as bytes come.
use Rattle.std.proofs.Common.{◌≡◌, ◌≢◌, ℕ, zero, suc, ◌+◌, ◌-◌, ◌*◌, ◌^◌, ◌<◌, ◌≤◌, ◌==◌, ◌||◌, Bool, true, false, not, cond, nat_lt, List, [], ◌∷◌, ◌++◌, length, take, refl, sym, ap, ◌∙◌, arith, append-nil, length-append}
use Rattle.std.specs.List.{list_any, list_all, prefix_len}
use Rattle.std.specs.Char.{is_digit, digit_value}
use Rattle.std.specs.Str.Parse.{digits_value}
use Rattle.std.proofs.lemmas.Int.Digits.{digits_value_push}
use Rattle.std.proofs.lemmas.Bool.{ne_eqb, and_parts, and_left, and_right, or_parts, lt-ltb, le-ltb, ltb-true, cond_both}
use Rattle.std.proofs.lemmas.List.Folds.{list_all-append, list_any-append}
use Rattle.std.proofs.Math.Numerals.{one-add}
use Rattle.std.proofs.Math.Seq.{take-append-add}
use Rattle.body_frames.specs.Lines.{size_digits, is_size, is_size_text}

abbrev pub is_semicolon : ℕ → Bool
is_semicolon byte = byte == 59

abbrev pub is_hex : ℕ → Bool
is_hex byte = is_digit byte 16

digits_step : (x : ℕ) (text : List ℕ) → size_digits (x ∷ text) ≡ cond (x == 59) [] (x ∷ size_digits text)
digits_step x text = elim (x == 59) as (λ v. take (cond (not v) (1 + prefix_len (λ y. not (y == 59)) text) 0) (x ∷ text) ≡ cond v [] (x ∷ size_digits text)) [
  | true ↦ refl
  | false ↦ rw one-add refl
]

-- behind digits with no `;`
pub digits-append_plain : (text more : List ℕ) → list_any is_semicolon text ≡ false → size_digits (text ++ more) ≡ text ++ size_digits more
digits-append_plain [] more h = refl
digits-append_plain (x ∷ text) more h =
    let parts = or_parts (x == 59) (list_any is_semicolon text) h in
    digits_step x (text ++ more) ∙ rw parts.0 (ap (λ t. x ∷ t) (digits-append_plain text more parts.1))

-- behind a `;`
pub digits-append_extension : (text more : List ℕ) → list_any is_semicolon text ≡ true → size_digits (text ++ more) ≡ size_digits text
digits-append_extension [] more h = cc
digits-append_extension (x ∷ text) more h =
    digits_step x (text ++ more) ∙ (elim (x == 59) as (λ v. (v || list_any is_semicolon text) ≡ true → cond v [] (x ∷ size_digits (text ++ more)) ≡ cond v [] (x ∷ size_digits text)) [
      | true ↦ λ _. refl
      | false ↦ λ h. ap (λ t. x ∷ t) (digits-append_extension text more h)
    ] h ∙ sym (digits_step x text))

-- what a size is
pub is_size-parts : (digits : List ℕ) → is_size digits ≡ true → (0 < length digits) × ((list_all is_hex digits ≡ true) × (digits_value 16 digits < 2 ^ 32))
unfolding is_size
is_size-parts digits h =
    let outer = and_parts _ _ h in
    let inner = and_parts _ _ outer.0 in
    (ltb-true _ _ inner.0, (inner.1, ltb-true _ _ outer.1))

-- a digit more
pub is_size_push : (digits : List ℕ) (byte : ℕ) → list_all is_hex digits ≡ true → digit_value byte < 16 → is_size (digits ++ byte ∷ []) ≡ nat_lt (digits_value 16 digits * 16 + digit_value byte) (2 ^ 32)
unfolding is_size
is_size_push digits byte all digit =
    rw (lt-ltb 0 (length (digits ++ byte ∷ [])) (omega (arith, length-append digits (byte ∷ []))), list_all-append is_hex digits (byte ∷ []), all, lt-ltb (digit_value byte) 16 digit, digits_value_push 16 digits byte) refl

-- a byte that is no digit
pub is_size-other : (digits : List ℕ) (byte : ℕ) (more : List ℕ) → 16 ≤ digit_value byte → is_size (digits ++ byte ∷ more) ≡ false
unfolding is_size
is_size-other digits byte more other =
    and_left _ _ (and_right _ _ (list_all-append is_hex digits (byte ∷ more) ∙ and_right _ _ (and_left _ _ (le-ltb (digit_value byte) 16 other))))

-- Texts of size lines: those with no `;` in them are digits alone.
abbrev pub Plain : List ℕ → Type 0
Plain text = list_any is_semicolon text ≡ false

pub digits_plain : (text : List ℕ) → Plain text → size_digits text ≡ text
digits_plain text plain = ap size_digits (sym (append-nil text)) ∙ (digits-append_plain text [] plain ∙ append-nil text)

pub not_digit : (byte other : ℕ) → 16 ≤ digit_value other → digit_value byte < 16 → byte ≡ other → ⊥
not_digit byte other above below e = omega (arith, ap digit_value e)

-- a digit more behind the digits
pub digit_more : (text : List ℕ) (byte : ℕ) → Plain text → digit_value byte < 16 → size_digits (text ++ byte ∷ []) ≡ text ++ byte ∷ []
digit_more text byte plain digit = digits_plain (text ++ byte ∷ []) (list_any-append is_semicolon text (byte ∷ []) ∙ rw (plain, ne_eqb byte 59 (not_digit byte 59 (omega arith) digit)) refl)

-- a `;` behind them
pub extension_more : (text : List ℕ) → Plain text → size_digits (text ++ 59 ∷ []) ≡ size_digits text
extension_more text plain = digits-append_plain text (59 ∷ []) plain ∙ (append-nil text ∙ sym (digits_plain text plain))

-- another byte
pub other_more : (text : List ℕ) (byte : ℕ) (more : List ℕ) → Plain text → byte ≢ 59 → 16 ≤ digit_value byte → is_size_text (text ++ byte ∷ more) ≡ false
other_more text byte more plain no_extension no_digit =
    ap is_size (digits-append_plain text (byte ∷ more) plain ∙ ap (λ t. text ++ t) (digits_step byte more ∙ rw (ne_eqb byte 59 no_extension) refl)) ∙ is_size-other text byte (size_digits more) no_digit

-- no size line begins with another byte
pub other_first : (byte : ℕ) → 16 ≤ digit_value byte → is_size_text (cond (byte == 13) [] (byte ∷ [])) ≡ false
unfolding is_size
other_first byte no_digit =
    cond_both (byte == 13) [] (byte ∷ []) (λ t. is_size_text t ≡ false) (λ _. refl)
    (λ _. ap is_size (digits_step byte []) ∙ elim (byte == 59) as (λ v. is_size (cond v [] (byte ∷ [])) ≡ false) [ true ↦ refl | false ↦ is_size-other [] byte [] no_digit ])

-- the front of a text that goes on
pub take-append_longer : (text more : List ℕ) (n : ℕ) → length text ≤ n → take n (text ++ more) ≡ text ++ take (n - length text) more
take-append_longer text more n fits =
    let sum : length text + (n - length text) ≡ n = omega arith in
    ap (λ k. take k (text ++ more)) (sym sum) ∙ take-append-add text more (n - length text)

pub take_some : (n byte : ℕ) (more : List ℕ) → 0 < n → (rest : List ℕ) × (take n (byte ∷ more) ≡ byte ∷ rest)
take_some zero byte more h = absurd (omega arith)
take_some (suc n) byte more h = (take n more, refl)

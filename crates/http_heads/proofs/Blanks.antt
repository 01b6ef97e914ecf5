-- White space at an end of a text.
use Rattle.std.proofs.Common.{◌≡◌, ℕ, true, false, List, [], ◌∷◌, ◌++◌, length, reverse, refl, ap, sym, ◌∙◌, arith}
use Rattle.std.proofs.lemmas.Bool.{cond-true, cond-false}
use Rattle.std.proofs.lemmas.List.{reverse-append, reverse-reverse}
use Rattle.httparse.specs.Grammar.{is_ows, skip_ows}

pub skip_ows-blank : (text rest : List ℕ) (byte : ℕ) → text ≡ byte ∷ rest → is_ows byte ≡ true → skip_ows text ≡ skip_ows rest
skip_ows-blank text rest byte is blank = ap skip_ows is ∙ cond-true (is_ows byte) (skip_ows rest) (byte ∷ rest) blank

pub skip_ows-other : (text rest : List ℕ) (byte : ℕ) → text ≡ byte ∷ rest → is_ows byte ≡ false → skip_ows text ≡ text
skip_ows-other text rest byte is other = ap skip_ows is ∙ cond-false (is_ows byte) (skip_ows rest) (byte ∷ rest) other ∙ sym is

pub skip_ows-none : (text : List ℕ) → length text ≡ 0 → skip_ows text ≡ text
skip_ows-none [] none = refl
skip_ows-none (byte ∷ text) none = absurd (omega (arith, none))

-- the last byte is the first one from behind
reversed : (text front : List ℕ) (byte : ℕ) → text ≡ front ++ byte ∷ [] → reverse text ≡ byte ∷ reverse front
reversed text front byte is = ap reverse is ∙ reverse-append front (byte ∷ [])

pub last_blank : (text front : List ℕ) (byte : ℕ) → text ≡ front ++ byte ∷ [] → is_ows byte ≡ true
    → skip_ows (reverse text) ≡ skip_ows (reverse front)
last_blank text front byte is = skip_ows-blank (reverse text) (reverse front) byte (reversed text front byte is)

pub last_other : (text front : List ℕ) (byte : ℕ) → text ≡ front ++ byte ∷ [] → is_ows byte ≡ false
    → reverse (skip_ows (reverse text)) ≡ text
last_other text front byte is other =
    ap reverse (skip_ows-other (reverse text) (reverse front) byte (reversed text front byte is) other) ∙ reverse-reverse text

pub last_none : (text : List ℕ) → length text ≡ 0 → reverse (skip_ows (reverse text)) ≡ text
last_none [] none = refl
last_none (byte ∷ text) none = absurd (omega (arith, none))

-- An integer or a string that is read is the one that was written, and what was written is read again.
use Rattle.std.proofs.Common.{◌≡◌, ℕ, zero, suc, ◌^◌, ◌<◌, ◌≤◌, false, cond, eqb, leb, ℤ, pos, negsuc, List, [], ◌∷◌, ◌++◌, length, take, drop, Option, Some, None, refl, sym, ◌∙◌, ap, arith, inl, inr, append_assoc}
use Rattle.std.specs.Prelude.{neg_ℤ, option_and_then}
use Rattle.std.specs.Char.{is_ascii_digit}
use Rattle.std.specs.Str.Parse.{AllDigits}
use Rattle.std.specs.Fmt.{decimal, signed_decimal}
use lib.Signed.{mag}
use Rattle.std.proofs.lemmas.Bool.{cases_Bool, ne_eqb, both_ways, leb-true, le-leb}
use Rattle.std.proofs.lemmas.List.{take-append-drop, take_at, drop_at, length-append, length-take}
use Rattle.std.proofs.lemmas.Fmt.{decimal_is_IsNumeral}
use Rattle.bencode_core.specs.Value.{string_spelling}
use Rattle.bencode_core.specs.Reading.{begins, number_at, integer_at, string_at}
use Rattle.bencode_core.proofs.Numbers.{some_is, mapped, guarded, begins_with, digit_is, number_takes, number_again, number_rest}

chained : {A B : Type 0} (f : A → Option B) (o : Option A) (y : B) → option_and_then f o ≡ Some y → (x : A) × (o ≡ Some x) × (f x ≡ Some y)
chained f None y e = absurd cc
chained f (Some x) y e = (x, refl, e)

-- ---- integers

signed_takes : (text rest : List ℕ) (y z : ℤ) → y ≡ z → mag z < 2 ^ 63 → (mag y < 2 ^ 63 → text ≡ signed_decimal y ++ 101 ∷ rest) → text ≡ signed_decimal z ++ 101 ∷ rest
signed_takes text rest y z e fits takes =
    let y_fits : mag y < 2 ^ 63 = rw e fits in
    takes y_fits ∙ ap (λ (x : ℤ). signed_decimal x ++ 101 ∷ rest) e

pub first_is : {A : Type 0} (x y : A) (xs ys : List ℕ) → ◌≡◌ {A = A × List ℕ} (x, xs) (y, ys) → (x ≡ y) × (xs ≡ ys)
first_is x y xs ys e = (ap (λ p. p.0) e, ap (λ p. p.1) e)

below_zero : (n : ℕ) (bytes behind rest : List ℕ) (z : ℤ) → cond {A = Option (ℤ × List ℕ)} (eqb n 0) None (Some (neg_ℤ (pos n), behind)) ≡ Some (z, rest) → mag z < 2 ^ 63 → bytes ≡ 45 ∷ drop 1 bytes → (n < 2 ^ 64 → drop 1 bytes ≡ decimal n ++ 101 ∷ behind) → bytes ≡ signed_decimal z ++ 101 ∷ rest
below_zero zero bytes behind rest z is fits minus digits = absurd cc
below_zero (suc n) bytes behind rest z is fits minus digits =
    let both = first_is (negsuc n) z behind rest (some_is _ _ (rw (ne_eqb (suc n) 0 (λ e. omega arith)) at is)) in
    rw (← both.1) (signed_takes bytes behind (negsuc n) z both.0 fits (λ n_fits. minus ∙ ap (λ (xs : List ℕ). 45 ∷ xs) (digits (omega arith))))

above_zero : (n : ℕ) (bytes behind rest : List ℕ) (z : ℤ) → ◌≡◌ {A = ℤ × List ℕ} (pos n, behind) (z, rest) → mag z < 2 ^ 63 → (n < 2 ^ 64 → bytes ≡ decimal n ++ 101 ∷ behind) → bytes ≡ signed_decimal z ++ 101 ∷ rest
above_zero n bytes behind rest z is fits digits =
    let both = first_is (pos n) z behind rest is in
    rw (← both.1) (signed_takes bytes behind (pos n) z both.0 fits (λ n_fits. digits (omega arith)))

pub integer_takes : (i : ℕ) (bytes : List ℕ) (z : ℤ) (rest : List ℕ) → integer_at (i ∷ bytes) ≡ Some (z, rest) → mag z < 2 ^ 63 → bytes ≡ signed_decimal z ++ 101 ∷ rest
unfolding integer_at
integer_takes i bytes z rest is fits =
    elim (cases_Bool (begins 45 bytes)) [
      | inl minus ↦
          let c = chained {B = ℤ × List ℕ} (λ (n : ℕ × List ℕ). cond {A = Option (ℤ × List ℕ)} (eqb n.0 0) None (Some (neg_ℤ (pos n.0), n.1))) (number_at 101 (drop 1 bytes)) (z, rest) (rw minus at is) in
          below_zero c.0.0 bytes c.0.1 rest z c.2 fits (begins_with 45 bytes minus) (λ n_fits. number_takes 101 (drop 1 bytes) c.0.0 c.0.1 c.1 n_fits)
      | inr plus ↦
          let m = mapped {B = ℤ × List ℕ} (λ (n : ℕ × List ℕ). (pos n.0, n.1)) (number_at 101 bytes) (z, rest) (rw plus at is) in
          above_zero m.0.0 bytes m.0.1 rest z m.2 fits (λ n_fits. number_takes 101 bytes m.0.0 m.0.1 m.1 n_fits)
    ]

-- digits begin with no other byte
pub begins_no_digit : (byte : ℕ) (ds rest : List ℕ) → is_ascii_digit byte ≡ false → AllDigits 10 ds → 0 < length ds → begins byte (ds ++ rest) ≡ false
begins_no_digit byte [] rest other are some = absurd (omega arith)
begins_no_digit byte (d ∷ ds) rest other are some = ne_eqb d byte (λ e. both_ways (is_ascii_digit byte) other (ap is_ascii_digit (sym e) ∙ digit_is d are.0))

pub integer_again : (i : ℕ) (z : ℤ) (rest : List ℕ) → mag z < 2 ^ 63 → integer_at (i ∷ (signed_decimal z ++ 101 ∷ rest)) ≡ Some (z, rest)
unfolding integer_at
integer_again i (pos n) rest fits =
    let is = decimal_is_IsNumeral n (omega arith) in
    rw (begins_no_digit 45 (decimal n) (101 ∷ rest) refl is.0.1 is.0.0, number_again 101 n rest refl (omega arith)) refl
integer_again i (negsuc n) rest fits = rw (number_again 101 (suc n) rest refl (omega arith), ne_eqb (suc n) 0 (λ e. omega arith)) refl

-- ---- strings

-- the taken bytes and their number
taken : (n : ℕ) (xs s rest : List ℕ) → cond {A = Option (List ℕ × List ℕ)} (leb n (length xs)) (Some (take n xs, drop n xs)) None ≡ Some (s, rest) → (s ≡ take n xs) × (length s ≡ n) × (n ≤ length xs) × (rest ≡ drop n xs)
taken n xs s rest is =
    let g = guarded {A = List ℕ × List ℕ} (leb n (length xs)) (Some (take n xs, drop n xs)) (s, rest) is in
    let short : n ≤ length xs = leb-true n (length xs) g.0 in
    let both = first_is (take n xs) s (drop n xs) rest (some_is _ _ g.1) in
    (sym both.0, omega (arith, ap length both.0, length-take n xs), short, sym both.1)

spelled_by : (n : ℕ) (bytes xs s rest : List ℕ) → bytes ≡ decimal n ++ 58 ∷ xs → s ≡ take n xs → length s ≡ n → rest ≡ drop n xs → bytes ≡ string_spelling s ++ rest
spelled_by n bytes xs s rest is s_is len rest_is =
    is ∙ ap (λ (behind : List ℕ). decimal n ++ 58 ∷ behind) (sym (take-append-drop n xs)) ∙ rw (← s_is, rest_is, ← len) (simp append_assoc)

pub string_takes : (bytes s rest : List ℕ) → string_at bytes ≡ Some (s, rest) → length bytes < 2 ^ 64 → bytes ≡ string_spelling s ++ rest
unfolding string_at
string_takes bytes s rest is fits =
    let c = chained {B = List ℕ × List ℕ} (λ (n : ℕ × List ℕ). cond {A = Option (List ℕ × List ℕ)} (leb n.0 (length n.1)) (Some (take n.0 n.1, drop n.0 n.1)) None) (number_at 58 bytes) (s, rest) is in
    let t = taken c.0.0 c.0.1 s rest c.2 in
    let fits_64 : c.0.0 < 2 ^ 64 = omega (arith, t.2, number_rest 58 bytes c.0.0 c.0.1 c.1) in
    spelled_by c.0.0 bytes c.0.1 s rest (number_takes 58 bytes c.0.0 c.0.1 c.1 fits_64) t.0 t.1 t.3

pub string_again : (s rest : List ℕ) → length s < 2 ^ 64 → string_at (string_spelling s ++ rest) ≡ Some (s, rest)
unfolding string_at
string_again s rest fits =
    let regrouped : string_spelling s ++ rest ≡ decimal (length s) ++ 58 ∷ (s ++ rest) = simp append_assoc in
    let number : number_at 58 (string_spelling s ++ rest) ≡ Some (length s, s ++ rest) = rw regrouped (number_again 58 (length s) (s ++ rest) refl fits) in
    rw (number, le-leb (length s) (length (s ++ rest)) (omega (arith, length-append s rest)), take_at s rest (length s) refl, drop_at s rest (length s) refl) refl

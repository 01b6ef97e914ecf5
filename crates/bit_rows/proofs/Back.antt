-- A row is read back from its bytes.
use Rattle.std.proofs.Common.{◌≡◌, ℕ, zero, suc, ◌+◌, ◌-◌, ◌*◌, ◌/◌, ◌%◌, ◌<◌, ◌≤◌, Bool, true, false, cond, eqb, List, [], ◌∷◌, ◌++◌, length, get_or, map, take, drop, replicate, Contains, All, refl, sym, ap, ◌∙◌, inl, inr, arith}
use Rattle.std.proofs.lemmas.List.{drop-drop, length-take, length-drop, length-append, length-replicate, nil_from_length, get_or-replicate, get_or_past, take-append-drop, take_at, drop_at}
use Rattle.std.proofs.lemmas.List.FromFn.{length-map-range_with_len}
use Rattle.std.proofs.lemmas.Bool.{cases_lt, false≢true}
use Rattle.std.specs.List.{range_with_len}
use Rattle.bit_rows.specs.Row.{bits_of_byte, bits_of, bytes_for, row_bytes, padded, bits_number, spare_bits}
use Rattle.bit_rows.specs.RowLaws.{ReadsBack, HoldsRow}
use Rattle.bit_rows.proofs.Rows.{packed, length-row_of, spare_from_none}

-- ---- the bits of a byte

abbrev digit : Bool → ℕ
digit bit = cond bit 1 0

digit_small : (bit : Bool) → digit bit ≤ 1
digit_small true = omega arith
digit_small false = omega arith

digit_back : (bit : Bool) (n : ℕ) → n ≡ digit bit → eqb n 1 ≡ bit
digit_back true n is = rw is refl
digit_back false n is = rw is refl

-- the number that eight digits write
abbrev eight : ℕ → ℕ → ℕ → ℕ → ℕ → ℕ → ℕ → ℕ → ℕ
eight a b c d e f g h = 2 * (2 * (2 * (2 * (2 * (2 * (2 * (2 * 0 + a) + b) + c) + d) + e) + f) + g) + h

module _ (a b c d e f g h : ℕ) (small_a : a ≤ 1) (small_b : b ≤ 1) (small_c : c ≤ 1) (small_d : d ≤ 1)
    (small_e : e ≤ 1) (small_f : f ≤ 1) (small_g : g ≤ 1) (small_h : h ≤ 1) where
  digit_a : eight a b c d e f g h / 128 % 2 ≡ a
  digit_a = omega arith

  digit_b : eight a b c d e f g h / 64 % 2 ≡ b
  digit_b = omega arith

  digit_c : eight a b c d e f g h / 32 % 2 ≡ c
  digit_c = omega arith

  digit_d : eight a b c d e f g h / 16 % 2 ≡ d
  digit_d = omega arith

  digit_e : eight a b c d e f g h / 8 % 2 ≡ e
  digit_e = omega arith

  digit_f : eight a b c d e f g h / 4 % 2 ≡ f
  digit_f = omega arith

  digit_g : eight a b c d e f g h / 2 % 2 ≡ g
  digit_g = omega arith

  digit_h : eight a b c d e f g h / 1 % 2 ≡ h
  digit_h = omega arith

byte_back : (bits : List Bool) → length bits ≡ 8 → bits_of_byte (bits_number bits) ≡ bits
byte_back [] long = absurd (omega (arith, long))
byte_back (a ∷ []) long = absurd (omega (arith, long))
byte_back (a ∷ b ∷ []) long = absurd (omega (arith, long))
byte_back (a ∷ b ∷ c ∷ []) long = absurd (omega (arith, long))
byte_back (a ∷ b ∷ c ∷ d ∷ []) long = absurd (omega (arith, long))
byte_back (a ∷ b ∷ c ∷ d ∷ e ∷ []) long = absurd (omega (arith, long))
byte_back (a ∷ b ∷ c ∷ d ∷ e ∷ f ∷ []) long = absurd (omega (arith, long))
byte_back (a ∷ b ∷ c ∷ d ∷ e ∷ f ∷ g ∷ []) long = absurd (omega (arith, long))
byte_back (a ∷ b ∷ c ∷ d ∷ e ∷ f ∷ g ∷ h ∷ i ∷ bits) long = absurd (omega (arith, long))
byte_back (a ∷ b ∷ c ∷ d ∷ e ∷ f ∷ g ∷ h ∷ []) long =
    let a_is = digit_back a _ (digit_a (digit a) (digit b) (digit c) (digit d) (digit e) (digit f) (digit g) (digit h)
    (digit_small a) (digit_small b) (digit_small c) (digit_small d) (digit_small e) (digit_small f)
    (digit_small g) (digit_small h)) in
    let b_is = digit_back b _ (digit_b (digit a) (digit b) (digit c) (digit d) (digit e) (digit f) (digit g) (digit h)
    (digit_small a) (digit_small b) (digit_small c) (digit_small d) (digit_small e) (digit_small f)
    (digit_small g) (digit_small h)) in
    let c_is = digit_back c _ (digit_c (digit a) (digit b) (digit c) (digit d) (digit e) (digit f) (digit g) (digit h)
    (digit_small a) (digit_small b) (digit_small c) (digit_small d) (digit_small e) (digit_small f)
    (digit_small g) (digit_small h)) in
    let d_is = digit_back d _ (digit_d (digit a) (digit b) (digit c) (digit d) (digit e) (digit f) (digit g) (digit h)
    (digit_small a) (digit_small b) (digit_small c) (digit_small d) (digit_small e) (digit_small f)
    (digit_small g) (digit_small h)) in
    let e_is = digit_back e _ (digit_e (digit a) (digit b) (digit c) (digit d) (digit e) (digit f) (digit g) (digit h)
    (digit_small a) (digit_small b) (digit_small c) (digit_small d) (digit_small e) (digit_small f)
    (digit_small g) (digit_small h)) in
    let f_is = digit_back f _ (digit_f (digit a) (digit b) (digit c) (digit d) (digit e) (digit f) (digit g) (digit h)
    (digit_small a) (digit_small b) (digit_small c) (digit_small d) (digit_small e) (digit_small f)
    (digit_small g) (digit_small h)) in
    let g_is = digit_back g _ (digit_g (digit a) (digit b) (digit c) (digit d) (digit e) (digit f) (digit g) (digit h)
    (digit_small a) (digit_small b) (digit_small c) (digit_small d) (digit_small e) (digit_small f)
    (digit_small g) (digit_small h)) in
    let h_is = digit_back h _ (digit_h (digit a) (digit b) (digit c) (digit d) (digit e) (digit f) (digit g) (digit h)
    (digit_small a) (digit_small b) (digit_small c) (digit_small d) (digit_small e) (digit_small f)
    (digit_small g) (digit_small h)) in
    rw (a_is, b_is, c_is, d_is, e_is, f_is, g_is, h_is) refl

-- ---- the bits of bytes

-- from the byte of this number on
from_here : (xs : List Bool) (n a : ℕ) → length xs ≡ 8 * (a + n)
    → bits_of (map (λ at. bits_number (take 8 (drop (8 * at) xs))) (range_with_len a n)) ≡ drop (8 * a) xs
from_here xs zero a long = sym (nil_from_length (drop (8 * a) xs) (omega (arith, length-drop (8 * a) xs, long)))
from_here xs (suc n) a long =
    let rest = drop (8 * a) xs in
    let here : length (take 8 rest) ≡ 8 = omega (arith, length-take 8 rest, length-drop (8 * a) xs, long) in
    let next : drop (8 * (a + 1)) xs ≡ drop 8 rest = ap (λ k. drop k xs) (omega arith) ∙ sym (drop-drop 8 (8 * a) xs) in
    ap (λ bits. bits ++ bits_of (map (λ at. bits_number (take 8 (drop (8 * at) xs))) (range_with_len (a + 1) n)))
    (byte_back (take 8 rest) here)
    ∙ ap (λ bits. take 8 rest ++ bits) (from_here xs n (a + 1) (omega (arith, long)) ∙ next)
    ∙ take-append-drop 8 rest

bits_back : (row : List Bool) → bits_of (row_bytes row) ≡ padded row
bits_back row =
    let n = bytes_for (length row) in
    let spare = 8 * n - length row in
    from_here (padded row) n 0 (length-append row (replicate spare false)
    ∙ omega (arith, length-replicate {A = Bool} spare false))

none_false : (n : ℕ) → Contains (replicate n false) true → ⊥
none_false n (k, within, is) =
    let long = length-replicate {A = Bool} n false in
    absurd (false≢true (sym (get_or-replicate n k false true (omega arith)) ∙ is))

pub reads_back : (row : List Bool) → ReadsBack row
reads_back row =
    let spare = 8 * bytes_for (length row) - length row in
    record {
      many = length-map-range_with_len _ 0 (bytes_for (length row));
      same = ap (take (length row)) (bits_back row) ∙ take_at row (replicate spare false) (length row) refl;
      clear = λ some. none_false spare (rw (bits_back row, drop_at row (replicate spare false) (length row) refl) at
          some);
    }

below_256 : (bytes : List ℕ) → All (λ byte. byte < 256) bytes → (i : ℕ) → get_or bytes i 0 < 256
below_256 bytes small i = elim (cases_lt i (length bytes)) [
  | inl within ↦ small i 0 within
  | inr past ↦ rw (get_or_past bytes i 0 past) (omega arith)
]

pub holds_row : (n : ℕ) (bytes : List ℕ) → All (λ byte. byte < 256) bytes → length bytes ≡ bytes_for n
    → (Contains (spare_bits n bytes) true → ⊥) → HoldsRow n bytes
holds_row n bytes small fits none = record {
  long = length-row_of bytes n fits;
  same = packed bytes n fits (spare_from_none bytes n none) (λ i. below_256 bytes small i);
}

-- How many bits are true.
use Rattle.std.proofs.Common.{◌≡◌, ℕ, ◌+◌, ◌<◌, ◌≤◌, Bool, true, false, eqb, cond, List, [], ◌∷◌, ◌++◌, length, get_or, set, take, drop, replicate, refl, sym, ap, zero-add, ◌∙◌, arith, count_by, count_ones}
use Rattle.std.proofs.lemmas.Bool.{eqb-true}
use Rattle.std.proofs.lemmas.List.{append-nil, take_more, take-append-drop}
use Rattle.std.proofs.lemmas.List.Elements.{All-get_or}
use Rattle.std.proofs.lemmas.List.Folds.{sum_by-replicate}
use Rattle.std.proofs.lemmas.List.FromFn.{length-range_with_len, get_or-range_with_len}
use Rattle.std.proofs.lemmas.List.Sums.{sum_by-append, sum_by-set, count_by-le-length, AllPass-from_list_all}
use Rattle.std.specs.Int.Count.{ones, ones_in}
use Rattle.std.specs.List.{list_all, range_with_len}
use Rattle.bit_rows.specs.Row.{bits_of_byte, bits_of, bits_number}
use Rattle.bit_rows.proofs.Places.{bits_of-append}

abbrev pub ones_of : List Bool → ℕ
ones_of row = count_by (λ bit. bit) row

-- the binary digits of a byte that are 1 are its bits that are true: all 256 bytes are tried
abbrev agrees : ℕ → Bool
agrees byte = eqb (count_ones byte) (ones_of (bits_of_byte byte))

all_agree : list_all agrees (range_with_len 0 256) ≡ true
unfolding ones ones_in
all_agree = refl

at_byte : (test : ℕ → Bool) → list_all test (range_with_len 0 256) ≡ true → (byte : ℕ) → byte < 256 → test byte ≡ true
at_byte test all byte below =
    let bytes = range_with_len 0 256 in
    let within : byte < length bytes = omega (arith, length-range_with_len 0 256) in
    ap test (sym (zero-add byte) ∙ sym (get_or-range_with_len 0 256 byte 0 below))
    ∙ All-get_or (λ b. test b ≡ true) bytes byte 0 within (AllPass-from_list_all test bytes all)

pub ones_of_byte : (byte : ℕ) → byte < 256 → ones_of (bits_of_byte byte) ≡ count_ones byte
ones_of_byte byte below = sym (eqb-true (count_ones byte) (ones_of (bits_of_byte byte)) (at_byte agrees all_agree byte below))

-- a byte is the number that its bits write
abbrev is_number : ℕ → Bool
is_number byte = eqb (bits_number (bits_of_byte byte)) byte

all_numbers : list_all is_number (range_with_len 0 256) ≡ true
all_numbers = refl

pub number_of_byte : (byte : ℕ) → byte < 256 → bits_number (bits_of_byte byte) ≡ byte
number_of_byte byte below = eqb-true (bits_number (bits_of_byte byte)) byte (at_byte is_number all_numbers byte below)

-- the bits of one more byte
pub ones_more : (bytes : List ℕ) (i : ℕ) → i < length bytes → get_or bytes i 0 < 256
    → ones_of (bits_of (take (i + 1) bytes)) ≡ ones_of (bits_of (take i bytes)) + count_ones (get_or bytes i 0)
ones_more bytes i within below =
    let byte = get_or bytes i 0 in
    let last : bits_of (byte ∷ []) ≡ bits_of_byte byte = append-nil (bits_of_byte byte) in
    ap (λ bs. ones_of (bits_of bs)) (take_more bytes i 0 within)
    ∙ ap ones_of (bits_of-append (take i bytes) (byte ∷ []))
    ∙ sum_by-append (λ bit. cond bit 1 0) (bits_of (take i bytes)) (bits_of (byte ∷ []))
    ∙ ap (λ bits. ones_of (bits_of (take i bytes)) + ones_of bits) last
    ∙ ap (λ n. ones_of (bits_of (take i bytes)) + n) (ones_of_byte byte below)

pub ones_so_far : (bytes : List ℕ) (i : ℕ) → ones_of (bits_of (take i bytes)) ≤ ones_of (bits_of bytes)
ones_so_far bytes i =
    let parts : ones_of (bits_of bytes) ≡ ones_of (bits_of (take i bytes)) + ones_of (bits_of (drop i bytes)) =
    ap (λ bs. ones_of (bits_of bs)) (sym (take-append-drop i bytes))
    ∙ ap ones_of (bits_of-append (take i bytes) (drop i bytes))
    ∙ sum_by-append (λ bit. cond bit 1 0) (bits_of (take i bytes)) (bits_of (drop i bytes)) in
    omega arith

-- ---- a row

-- one more is true
pub ones-set_true : (row : List Bool) (i : ℕ) → i < length row → get_or row i false ≡ false → ones_of (set row i true) ≡ ones_of row + 1
ones-set_true row i within was =
    let e = sum_by-set (λ bit. cond bit 1 0) row i true false within in
    let f : Bool → ℕ = λ bit. cond bit 1 0 in
    let zero_at : f (get_or row i false) ≡ 0 = ap f was in
    omega (arith, e, zero_at)

-- one less is true
pub ones-set_false : (row : List Bool) (i : ℕ) → i < length row → get_or row i false ≡ true → ones_of (set row i false) + 1 ≡ ones_of row
ones-set_false row i within was =
    let e = sum_by-set (λ bit. cond bit 1 0) row i false false within in
    let f : Bool → ℕ = λ bit. cond bit 1 0 in
    let one_at : f (get_or row i false) ≡ 1 = ap f was in
    omega (arith, e, one_at)

pub ones-replicate : (n : ℕ) → ones_of (replicate n false) ≡ 0
ones-replicate n = let e = sum_by-replicate (λ bit. cond bit 1 0) n false in omega (arith, e)

pub ones-append : (xs ys : List Bool) → ones_of (xs ++ ys) ≡ ones_of xs + ones_of ys
ones-append xs ys = sum_by-append (λ bit. cond bit 1 0) xs ys

pub ones-le : (row : List Bool) → ones_of row ≤ length row
ones-le row = count_by-le-length (λ bit. bit) row

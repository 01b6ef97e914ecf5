-- Rows as they are kept.
use Rattle.std.proofs.Common.{◌≡◌, ◌≢◌, ℕ, ◌+◌, ◌-◌, ◌*◌, ◌/◌, ◌%◌, ◌^◌, ◌<◌, ◌≤◌, suc, zero, Bool, true, false, eqb, List, [], ◌∷◌, ◌++◌, length, get_or, set, take, drop, replicate, Some, slice_get, Contains, refl, sym, ap, ◌∙◌, arith}
use Rattle.std.proofs.lemmas.List.{set-get_or, drop-drop, get_or-take, length-take, length-drop, length-set, length-replicate, get_or-replicate, get_or-drop, get_or_default, same_lists, take-append-drop, take-replicate, drop-replicate, drop-set-lt, replicate-append-replicate}
use Rattle.std.proofs.lemmas.List.FromFn.{fill_by_all}
use Rattle.std.proofs.lemmas.Option.{slice_get-get_or, slice_get_within, get_or_from_slice_get}
use Rattle.std.proofs.lemmas.Bool.{false≢true}
use Rattle.std.proofs.lemmas.Nat.Bits.{bit_at-zero, bit_at_ones}
use Rattle.std.specs.Int.{bit_at}
use Rattle.bit_rows.specs.Kept.{KeepsRow}
use Rattle.bit_rows.specs.Row.{bits_of_byte, bits_of, bytes_for, row_bytes, padded, bits_number, row_of, spare_bits}
use Rattle.bit_rows.proofs.Ones.{number_of_byte, ones_of, ones-set_true, ones-set_false, ones-replicate, ones-append, ones-le}
use Rattle.bit_rows.proofs.Places.{length-bits_of, bit_at_place}

-- ---- bits behind a row

pub found_set : (bytes : List ℕ) (from at : ℕ) → from ≤ at → slice_get (bits_of bytes) at ≡ Some true → Contains (spare_bits from bytes) true
found_set bytes from at later is =
    let within : at < length (bits_of bytes) = slice_get_within (bits_of bytes) at true is in
    let short : length (spare_bits from bytes) ≡ length (bits_of bytes) - from = length-drop from (bits_of bytes) in
    let place : from + (at - from) ≡ at = omega arith in (
      at - from,
      omega arith,
      get_or-drop from (bits_of bytes) (at - from) true ∙ ap (λ n. get_or (bits_of bytes) n true) place ∙ get_or_from_slice_get (bits_of bytes) at true true is,
    )

pub none_set : (bytes : List ℕ) (from : ℕ) → ((place : ℕ) → from ≤ place → place < 8 * length bytes → slice_get (bits_of bytes) place ≢ Some true)
    → Contains (spare_bits from bytes) true → ⊥
none_set bytes from absent (k, within, is) =
    let short : length (spare_bits from bytes) ≡ length (bits_of bytes) - from = length-drop from (bits_of bytes) in
    let all = length-bits_of bytes in
    let inside : from + k < length (bits_of bytes) = omega arith in
    absent (from + k) (omega arith) (omega arith)
    (slice_get-get_or (bits_of bytes) (from + k) true inside ∙ ap Some (sym (get_or-drop from (bits_of bytes) k true) ∙ is))

-- ---- parts of lists

pub take_set : (n i : ℕ) (row : List Bool) (v : Bool) → i < n → take n (set row i v) ≡ set (take n row) i v
take_set zero i row v below = absurd (omega arith)
take_set (suc n) i [] v below = refl
take_set (suc n) zero (b ∷ bs) v below = refl
take_set (suc n) (suc i) (b ∷ bs) v below = ap (λ row. b ∷ row) (take_set n i bs v (omega arith))

all_false : (row : List Bool) → (Contains row true → ⊥) → row ≡ replicate (length row) false
all_false row none =
    same_lists row (replicate (length row) false) (sym (length-replicate (length row) false))
    (λ k d within.
    sym (get_or-replicate (length row) k false d within
    ∙ sym (is_false (get_or row k d) (λ (is : get_or row k d ≡ true). none (k, within, get_or_default row k true d within ∙ is)))))
  where
    is_false : (b : Bool) → (b ≡ true → ⊥) → b ≡ false
    is_false true not = absurd (not refl)
    is_false false not = refl

-- ---- rows

pub length-row_of : (bytes : List ℕ) (len : ℕ) → length bytes ≡ bytes_for len → length (row_of len bytes) ≡ len
length-row_of bytes len fits = length-take len (bits_of bytes) ∙ omega (arith, length-bits_of bytes, fits)

pub spare_from_none : (bytes : List ℕ) (len : ℕ) → (Contains (spare_bits len bytes) true → ⊥) → spare_bits len bytes ≡ replicate (8 * length bytes - len) false
spare_from_none bytes len none =
    let short : length (spare_bits len bytes) ≡ 8 * length bytes - len = length-drop len (bits_of bytes) ∙ omega (arith, length-bits_of bytes) in
    all_false (spare_bits len bytes) none ∙ ap (λ n. replicate n false) short

-- eight bits of bytes are those of a byte
eight : (bytes : List ℕ) (k : ℕ) → k < length bytes → take 8 (drop (8 * k) (bits_of bytes)) ≡ bits_of_byte (get_or bytes k 0)
eight [] k within = absurd (omega arith)
eight (b ∷ bs) zero within = refl
eight (b ∷ bs) (suc k) within =
    let more : 8 * suc k ≡ 8 + 8 * k = omega arith in
    ap (λ n. take 8 (drop n (bits_of (b ∷ bs)))) more
    ∙ ap (take 8) (sym (drop-drop (8 * k) 8 (bits_of (b ∷ bs)))) ∙ eight bs k (omega arith)

-- the row that the bytes begin with, filled up with 0 bits, has these bytes
pub packed : (bytes : List ℕ) (len : ℕ) → length bytes ≡ bytes_for len → spare_bits len bytes ≡ replicate (8 * length bytes - len) false
    → ((i : ℕ) → get_or bytes i 0 < 256) → row_bytes (row_of len bytes) ≡ bytes
packed bytes len fits clear small =
    let row = row_of len bytes in
    let long : length row ≡ len = length-row_of bytes len fits in
    let many : length bytes ≡ bytes_for (length row) = fits ∙ ap bytes_for (sym long) in
    let bits : bits_of bytes ≡ padded row =
    sym (take-append-drop len (bits_of bytes)) ∙ ap (λ xs. row ++ xs) (clear ∙ ap (λ n. replicate n false) (omega arith)) in
    sym (fill_by_all (λ at. bits_number (take 8 (drop (8 * at) (padded row)))) bytes (bytes_for (length row)) 0 many
    (λ k below.
    sym (ap (λ xs. bits_number (take 8 (drop (8 * k) xs))) (sym bits) ∙ ap bits_number (eight bytes k (omega arith)) ∙ number_of_byte (get_or bytes k 0) (small k))))

-- no more bits are true than the row has places
pub few_set : (bytes : List ℕ) (len : ℕ) → length bytes ≡ bytes_for len → spare_bits len bytes ≡ replicate (8 * length bytes - len) false
    → (ones_of (bits_of bytes) ≡ ones_of (row_of len bytes)) × (ones_of (row_of len bytes) ≤ len)
few_set bytes len fits clear =
    let parts = ap ones_of (sym (take-append-drop len (bits_of bytes))) ∙ ones-append (row_of len bytes) (spare_bits len bytes) in
    let none = ap ones_of clear ∙ ones-replicate (8 * length bytes - len) in
    (omega (arith, parts, none), omega (arith, ones-le (row_of len bytes), length-row_of bytes len fits))

-- a row that begins as all false
zeros : (n : ℕ) → bits_of (replicate n 0) ≡ replicate (8 * n) false
zeros zero = refl
zeros (suc n) = ap (λ xs. replicate 8 false ++ xs) (zeros n) ∙ replicate-append-replicate 8 (8 * n) false ∙ ap (λ k. replicate k false) (omega arith)

pub fresh : (len : ℕ) → KeepsRow (replicate (bytes_for len) 0) len 0 × (row_of len (replicate (bytes_for len) 0) ≡ replicate len false)
fresh len =
    let n = bytes_for len in
    let many : length (replicate {A = ℕ} n 0) ≡ n = length-replicate {A = ℕ} n 0 in
    let row : row_of len (replicate n 0) ≡ replicate len false = ap (take len) (zeros n) ∙ take-replicate len (8 * n) false (omega arith) in (
      record {
        fits = many;
        spare = ap (drop len) (zeros n) ∙ drop-replicate len (8 * n) false ∙ ap (λ k. replicate k false) (omega (arith, many));
        counted = sym (ap ones_of row ∙ ones-replicate len);
      },
      row,
    )

-- what a write leaves: the old bytes held a row, the new bits are the old ones but for this one
pub kept_true : (old new : List ℕ) (len ones i : ℕ) → KeepsRow old len ones → i < len → get_or (row_of len old) i false ≡ false
    → bits_of new ≡ set (bits_of old) i true → length new ≡ length old
    → (ones < len) × (row_of len new ≡ set (row_of len old) i true) × KeepsRow new len (ones + 1)
kept_true old new len ones i kept within was is same =
    let long : length (row_of len old) ≡ len = length-row_of old len kept.fits in
    let row : row_of len new ≡ set (row_of len old) i true = ap (take len) is ∙ take_set len i (bits_of old) true within in
    let more : ones_of (set (row_of len old) i true) ≡ ones_of (row_of len old) + 1 = ones-set_true (row_of len old) i (omega arith) was in
    let most = ones-le (set (row_of len old) i true) in
    let counted = kept.counted in (
      omega (arith, length-set (row_of len old) i true),
      row,
      record {
        fits = same ∙ kept.fits;
        spare = ap (drop len) is ∙ drop-set-lt len (bits_of old) i true within ∙ kept.spare ∙ ap (λ n. replicate (8 * n - len) false) (sym same);
        counted = sym (ap ones_of row ∙ more ∙ ap (λ n. n + 1) (sym counted));
      },
    )

pub kept_false : (old new : List ℕ) (len ones i : ℕ) → KeepsRow old len ones → i < len → get_or (row_of len old) i false ≡ true
    → bits_of new ≡ set (bits_of old) i false → length new ≡ length old
    → (0 < ones) × (row_of len new ≡ set (row_of len old) i false) × KeepsRow new len (ones - 1)
kept_false old new len ones i kept within was is same =
    let long : length (row_of len old) ≡ len = length-row_of old len kept.fits in
    let row : row_of len new ≡ set (row_of len old) i false = ap (take len) is ∙ take_set len i (bits_of old) false within in
    let less : ones_of (set (row_of len old) i false) + 1 ≡ ones_of (row_of len old) = ones-set_false (row_of len old) i (omega arith) was in
    let counted = kept.counted in (
      omega arith,
      row,
      record {
        fits = same ∙ kept.fits;
        spare = ap (drop len) is ∙ drop-set-lt len (bits_of old) i false within ∙ kept.spare ∙ ap (λ n. replicate (8 * n - len) false) (sym same);
        counted = omega (arith, ap ones_of row);
      },
    )

-- what `set` and `clear` leave: the bytes are lent, and come back with one bit changed
pub set_true : (old lent new : List ℕ) (now : List Bool) (len ones i : ℕ) → KeepsRow old len ones → row_of len old ≡ now → i < length now
    → slice_get now i ≡ Some false → lent ≡ old → bits_of new ≡ set (bits_of lent) i true → length new ≡ length lent
    → (length new ≡ length old) × (ones < len) × (row_of len new ≡ set now i true) × KeepsRow new len (ones + 1)
set_true old lent new now len ones i kept row within was borrowed is same =
    let long = length-row_of old len kept.fits in
    let k = kept_true old new len ones i kept (omega (arith, ap length row)) (ap (λ r. get_or r i false) row ∙ get_or_from_slice_get now i false false was) (is ∙ ap (λ bytes. set (bits_of bytes) i true) borrowed) (same ∙ ap length borrowed) in
    (same ∙ ap length borrowed, k.0, k.1 ∙ ap (λ r. set r i true) row, k.2)

pub set_false : (old lent new : List ℕ) (now : List Bool) (len ones i : ℕ) → KeepsRow old len ones → row_of len old ≡ now → i < length now
    → slice_get now i ≡ Some true → lent ≡ old → bits_of new ≡ set (bits_of lent) i false → length new ≡ length lent
    → (length new ≡ length old) × (0 < ones) × (row_of len new ≡ set now i false) × KeepsRow new len (ones - 1)
set_false old lent new now len ones i kept row within was borrowed is same =
    let long = length-row_of old len kept.fits in
    let k = kept_false old new len ones i kept (omega (arith, ap length row)) (ap (λ r. get_or r i false) row ∙ get_or_from_slice_get now i true false was) (is ∙ ap (λ bytes. set (bits_of bytes) i false) borrowed) (same ∙ ap length borrowed) in
    (same ∙ ap length borrowed, k.0, k.1 ∙ ap (λ r. set r i false) row, k.2)

-- a place that has the value already stays as it is
pub set_same : (now : List Bool) (i : ℕ) (v : Bool) → slice_get now i ≡ Some v → now ≡ set now i v
set_same now i v is = sym (ap (λ b. set now i b) (sym (get_or_from_slice_get now i v v is)) ∙ set-get_or now i v)

-- ---- a byte whose bits are all the same

-- no bit of the byte has this value
abbrev pub HasNone : ℕ → Bool → Type 0
HasNone byte wanted = (i : ℕ) → i < 8 → eqb (bit_at byte i) 1 ≢ wanted

pub none_is_true : HasNone 0 true
none_is_true i below is = absurd (false≢true (sym (ap (λ b. eqb b 1) (bit_at-zero i)) ∙ is))

pub none_is_false : HasNone 255 false
none_is_false i below is = absurd (false≢true (sym is ∙ ap (λ b. eqb b 1) (bit_at_ones 8 i below)))

pub passed_byte : (bytes : List ℕ) (len at place : ℕ) (wanted : Bool) → length bytes ≡ bytes_for len → at % 8 ≡ 0 → at ≤ place → place < at + 8
    → HasNone (get_or bytes (at / 8) 0) wanted → slice_get (row_of len bytes) place ≢ Some wanted
passed_byte bytes len at place wanted fits whole from before none is =
    let inside : place < length (row_of len bytes) = slice_get_within (row_of len bytes) place wanted is in
    let long = length-row_of bytes len fits in
    let same : place / 8 ≡ at / 8 = omega arith in
    let parts : 8 * (at / 8) + place % 8 ≡ place = omega arith in
    let value : get_or (row_of len bytes) place wanted ≡ wanted = get_or_from_slice_get (row_of len bytes) place wanted wanted is in
    let bit : get_or (bits_of bytes) place wanted ≡ eqb (bit_at (get_or bytes (at / 8) 0) (7 - place % 8)) 1 =
    ap (λ n. get_or (bits_of bytes) n wanted) (sym parts) ∙ bit_at_place bytes (at / 8) (place % 8) wanted (omega arith) (omega arith) in
    none (7 - place % 8) (omega arith) (sym bit ∙ sym (get_or-take len (bits_of bytes) place wanted (omega arith)) ∙ value)

-- ---- a row from bytes

pub from_bytes_is : (bytes : List ℕ) (len : ℕ) → length bytes ≡ bytes_for len → len < 2 ^ 32 → (Contains (spare_bits len bytes) true → ⊥)
    → (ones_of (bits_of bytes) < 2 ^ 32) × KeepsRow bytes len (ones_of (bits_of bytes))
from_bytes_is bytes len fits small none =
    let clear = spare_from_none bytes len none in
    let few = few_set bytes len fits clear in
    (omega (arith, few.0, few.1), record { fits = fits; spare = clear; counted = few.0 })

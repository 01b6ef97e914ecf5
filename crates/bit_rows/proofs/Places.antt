-- Bits of bytes by their places, and what a write to a byte leaves of them.
use Rattle.std.proofs.Common.{◌≡◌, ◌≢◌, ℕ, ◌+◌, ◌-◌, ◌*◌, ◌/◌, ◌%◌, ◌^◌, ◌<◌, suc, zero, Bool, true, false, eqb, List, [], ◌∷◌, ◌++◌, length, get_or, set, Some, slice_get, refl, sym, ap, zero-add, ◌∙◌, ⊎_elim, arith, bit_and, bit_or}
use Rattle.std.proofs.lemmas.Bool.{cases_eq}
use Rattle.std.proofs.lemmas.Grind.{flat_map-append}
use Rattle.std.proofs.lemmas.List.{length-append, length-set, get_or_append_left, get_or-append-add, set-append_left, set-append_right, same_lists, get_or-set_same, get_or-set_other}
use Rattle.std.proofs.lemmas.List.FromFn.{get_or-map-range_with_len}
use Rattle.std.proofs.lemmas.Nat.Bits.{shr_and_one, bit_at_set_same, bit_at_set_other, bit_at_clear_same, bit_at_clear_other}
use Rattle.std.proofs.lemmas.Option.{slice_get-get_or}
use Rattle.std.specs.Int.{bit_at, w8}
use Rattle.bit_rows.specs.Row.{bits_of_byte, bits_of}

-- ---- one byte

bit_in_byte : (byte place : ℕ) (d : Bool) → place < 8 → get_or (bits_of_byte byte) place d ≡ eqb (bit_at byte (7 - place)) 1
bit_in_byte byte place d within = get_or-map-range_with_len (λ p. eqb (bit_at byte (7 - p)) 1) 0 8 place place d within (omega arith)

-- one bit becomes v, and the others stay
set_in_byte : (old new place : ℕ) (v : Bool) → place < 8 → eqb (bit_at new (7 - place)) 1 ≡ v
    → ((i : ℕ) → i < 8 → i ≢ 7 - place → bit_at new i ≡ bit_at old i)
    → bits_of_byte new ≡ set (bits_of_byte old) place v
set_in_byte old new place v within here others =
    same_lists (bits_of_byte new) (set (bits_of_byte old) place v) (sym (length-set (bits_of_byte old) place v))
    (λ k d below.
    ⊎_elim
    (λ (is : k ≡ place). bit_in_byte new k d below ∙ ap (λ p. eqb (bit_at new (7 - p)) 1) is ∙ here
    ∙ sym (ap (λ p. get_or (set (bits_of_byte old) place v) p d) is ∙ get_or-set_same (bits_of_byte old) place v d within))
    (λ (other : k ≢ place). bit_in_byte new k d below ∙ ap (λ b. eqb b 1) (others (7 - k) (omega arith) (omega arith))
    ∙ sym (bit_in_byte old k d below) ∙ sym (get_or-set_other (bits_of_byte old) place k v d other))
    (cases_eq k place))

-- ---- bytes

pub length-bits_of : (bytes : List ℕ) → length (bits_of bytes) ≡ 8 * length bytes
length-bits_of [] = refl
length-bits_of (b ∷ bs) = length-append (bits_of_byte b) (bits_of bs) ∙ omega (arith, length-bits_of bs)

pub bits_of-append : (xs ys : List ℕ) → bits_of (xs ++ ys) ≡ bits_of xs ++ bits_of ys
bits_of-append xs ys = flat_map-append bits_of_byte xs ys

pub bit_at_place : (bytes : List ℕ) (q r : ℕ) (d : Bool) → q < length bytes → r < 8
    → get_or (bits_of bytes) (8 * q + r) d ≡ eqb (bit_at (get_or bytes q 0) (7 - r)) 1
bit_at_place [] q r d within below = absurd (omega arith)
bit_at_place (b ∷ bs) zero r d within below =
    ap (λ n. get_or (bits_of_byte b ++ bits_of bs) n d) (zero-add r) ∙ get_or_append_left (bits_of_byte b) (bits_of bs) d r below ∙ bit_in_byte b r d below
bit_at_place (b ∷ bs) (suc q) r d within below =
    let e : 8 * suc q + r ≡ 8 + (8 * q + r) = omega arith in
    ap (λ n. get_or (bits_of_byte b ++ bits_of bs) n d) e ∙ get_or-append-add (bits_of_byte b) (bits_of bs) (8 * q + r) d ∙ bit_at_place bs q r d (omega arith) below

pub set_at_place : (bytes : List ℕ) (q r new : ℕ) (v : Bool) → q < length bytes → r < 8
    → eqb (bit_at new (7 - r)) 1 ≡ v
    → ((i : ℕ) → i < 8 → i ≢ 7 - r → bit_at new i ≡ bit_at (get_or bytes q 0) i)
    → bits_of (set bytes q new) ≡ set (bits_of bytes) (8 * q + r) v
set_at_place [] q r new v within below here others = absurd (omega arith)
set_at_place (b ∷ bs) zero r new v within below here others =
    ap (λ xs. xs ++ bits_of bs) (set_in_byte b new r v below here others)
    ∙ sym (ap (λ n. set (bits_of_byte b ++ bits_of bs) n v) (zero-add r) ∙ set-append_left (bits_of_byte b) (bits_of bs) r v below)
set_at_place (b ∷ bs) (suc q) r new v within below here others =
    let e : 8 * suc q + r - 8 ≡ 8 * q + r = omega arith in
    ap (λ xs. bits_of_byte b ++ xs) (set_at_place bs q r new v (omega arith) below here others)
    ∙ sym (set-append_right (bits_of_byte b) (bits_of bs) 8 (8 * suc q + r) v refl (omega arith) ∙ ap (λ n. bits_of_byte b ++ set (bits_of bs) n v) e)

-- ---- what the code computes

pub read_bit : (bytes : List ℕ) (at : ℕ) → at < 8 * length bytes
    → slice_get (bits_of bytes) at ≡ Some (eqb (bit_and (get_or bytes (at / 8) 0 / 2 ^ (7 - at % 8)) 1) 1)
read_bit bytes at within =
    let e : 8 * (at / 8) + at % 8 ≡ at = omega arith in
    let inside : at < length (bits_of bytes) = omega (arith, length-bits_of bytes) in
    slice_get-get_or (bits_of bytes) at false inside
    ∙ ap Some (ap (λ n. get_or (bits_of bytes) n false) (sym e) ∙ bit_at_place bytes (at / 8) (at % 8) false (omega arith) (omega arith)
    ∙ ap (λ n. eqb n 1) (sym (shr_and_one (get_or bytes (at / 8) 0) (7 - at % 8))))

pub write_true : (bytes : List ℕ) (at : ℕ) → at < 8 * length bytes
    → bits_of (set bytes (at / 8) (bit_or (get_or bytes (at / 8) 0) (1 * 2 ^ (7 - at % 8) % 256))) ≡ set (bits_of bytes) at true
write_true bytes at within =
    let e : 8 * (at / 8) + at % 8 ≡ at = omega arith in
    let old = get_or bytes (at / 8) 0 in
    let new : ℕ = bit_or old (1 * 2 ^ (7 - at % 8) % 256) in
    set_at_place bytes (at / 8) (at % 8) new true (omega arith) (omega arith)
    (ap (λ b. eqb b 1) (bit_at_set_same w8 old (7 - at % 8) (omega arith)))
    (λ i below other. bit_at_set_other w8 old (7 - at % 8) (omega arith) i other)
    ∙ ap (λ n. set (bits_of bytes) n true) e

pub write_false : (bytes : List ℕ) (at : ℕ) → at < 8 * length bytes
    → bits_of (set bytes (at / 8) (bit_and (get_or bytes (at / 8) 0) (255 - 1 * 2 ^ (7 - at % 8) % 256))) ≡ set (bits_of bytes) at false
write_false bytes at within =
    let e : 8 * (at / 8) + at % 8 ≡ at = omega arith in
    let old = get_or bytes (at / 8) 0 in
    let new : ℕ = bit_and old (255 - 1 * 2 ^ (7 - at % 8) % 256) in
    set_at_place bytes (at / 8) (at % 8) new false (omega arith) (omega arith)
    (ap (λ b. eqb b 1) (bit_at_clear_same w8 old (7 - at % 8) (omega arith)))
    (λ i below other. bit_at_clear_other w8 old (7 - at % 8) (omega arith) i below other)
    ∙ ap (λ n. set (bits_of bytes) n false) e

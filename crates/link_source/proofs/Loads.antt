-- The bytes of a load, by words and in parts.
use Rattle.std.proofs.Common.{◌≡◌, ℕ, zero, suc, ◌+◌, ◌-◌, ◌*◌, ◌/◌, ◌%◌, ◌≤◌, ◌<◌, [], ◌∷◌, ◌++◌, length, map, take, drop, ap, arith, refl, sym, ◌∙◌}
use Rattle.std.proofs.Math.Nat.{mod-add-div', mod-add-mod}
use Rattle.std.proofs.lemmas.List.FromFn.{length-map-range_with_len, take-map-range_with_len}
use Rattle.std.proofs.lemmas.Nat.{div-mul-add, mod-mul-add}
use Rattle.std.specs.Int.{byte_at, bytes_low_first}
use Rattle.std.specs.List.{range_with_len}
use Rattle.std.specs.Prelude.{◌^◌, bit_xor}
use Rattle.rand_xoshiro.specs.SplitMix64.{mix_u64}
use Rattle.dl_kinds.specs.Lists.{part_at}
use Rattle.link_source.specs.Load.{folded, load_byte, load_bytes, load_part, load_word}

-- ---- parts

same_range : {A : Type 0} (f : ℕ → A) {first other_first count other_count : ℕ} (firsts : first ≡ other_first) (counts : count ≡ other_count)
    → map f (range_with_len first count) ≡ map f (range_with_len other_first other_count)
same_range f {first = first} {other_count = other_count} firsts counts =
    ap (λ n. map f (range_with_len first n)) counts ∙ ap (λ n. map f (range_with_len n other_count)) firsts

drop-range : {A : Type 0} (f : ℕ → A) (first count skipped : ℕ) → skipped ≤ count
    → drop skipped (map f (range_with_len first count)) ≡ map f (range_with_len (first + skipped) (count - skipped))
drop-range f first count zero within = same_range f (omega arith) (omega arith)
drop-range f first zero (suc skipped) within = absurd (omega arith)
drop-range f first (suc count) (suc skipped) within =
    drop-range f (first + 1) count skipped (omega arith) ∙ same_range f (omega arith) (omega arith)

append-range : {A : Type 0} (f : ℕ → A) (first count more : ℕ)
    → map f (range_with_len first count) ++ map f (range_with_len (first + count) more) ≡ map f (range_with_len first (count + more))
append-range f first zero more = same_range f (omega arith) (omega arith)
append-range f first (suc count) more =
    ap (λ rest. f first ∷ (map f (range_with_len (first + 1) count) ++ rest)) (same_range f {other_first = first + 1 + count} (omega arith) refl)
    ∙ ap (λ rest. f first ∷ rest) (append-range f (first + 1) count more)
    ∙ same_range f {count = suc (count + more)} refl (omega arith)

pub no_part : (seed first none : ℕ) → none ≡ 0 → [] ≡ load_part seed first none
unfolding load_part
no_part seed first none is = ap (λ count. map (load_byte seed) (range_with_len first count)) (sym is)

-- two parts, one after the other
pub part-part : (seed first count place more all : ℕ) → first + count ≡ place → count + more ≡ all
    → load_part seed first count ++ load_part seed place more ≡ load_part seed first all
unfolding load_part
part-part seed first count place more all place_is all_is =
    ap (λ at. load_part seed first count ++ load_part seed at more) (sym place_is)
    ∙ append-range (load_byte seed) first count more
    ∙ ap (load_part seed first) all_is

pub length-load_bytes : (seed len : ℕ) → length (load_bytes seed len) ≡ len
unfolding load_bytes load_part
length-load_bytes seed len = length-map-range_with_len (load_byte seed) 0 len

pub part_of-load_bytes : (seed len first count : ℕ) → first + count ≤ len → part_at (load_bytes seed len) first count ≡ load_part seed first count
unfolding load_bytes load_part
part_of-load_bytes seed len first count within =
    ap (take count) (drop-range (load_byte seed) 0 len first (omega arith) ∙ same_range (load_byte seed) {other_first = first} (omega arith) refl)
    ∙ take-map-range_with_len (load_byte seed) first (len - first) count (omega arith)

-- ---- words

same_low : (word count : ℕ) {from other : ℕ} (is : from ≡ other) → bytes_low_first from count word ≡ bytes_low_first other count word
same_low word count is = ap (λ n. bytes_low_first n count word) is

first_low : (from many word count : ℕ) → count ≤ many → take count (bytes_low_first from many word) ≡ bytes_low_first from count word
first_low from many word zero within = refl
first_low from zero word (suc count) within = absurd (omega arith)
first_low from (suc many) word (suc count) within = ap (λ rest. byte_at from word ∷ rest) (first_low (suc from) many word count (omega arith))

some_low : (from many word skipped count : ℕ) → skipped + count ≤ many
    → take count (drop skipped (bytes_low_first from many word)) ≡ bytes_low_first (from + skipped) count word
some_low from many word zero count within = first_low from many word count (omega arith) ∙ same_low word count (omega arith)
some_low from zero word (suc skipped) count within = absurd (omega arith)
some_low from (suc many) word (suc skipped) count within =
    some_low (suc from) many word skipped count (omega arith) ∙ same_low word count (omega arith)

byte-here : (seed number low : ℕ) → low < 8 → byte_at low (load_word seed number) ≡ load_byte seed (number * 8 + low)
unfolding load_byte
byte-here seed number low within =
    ap (λ n. byte_at n (load_word seed number)) (sym (mod-mul-add number 8 low within))
    ∙ ap (λ n. byte_at ((number * 8 + low) % 8) (load_word seed n)) (sym (div-mul-add number 8 low within))

low_part : (seed number low count : ℕ) → low + count ≤ 8
    → bytes_low_first low count (load_word seed number) ≡ map (load_byte seed) (range_with_len (number * 8 + low) count)
low_part seed number low zero within = refl
low_part seed number low (suc count) within =
    ap (λ byte. byte ∷ bytes_low_first (suc low) count (load_word seed number)) (byte-here seed number low (omega arith))
    ∙ ap (λ rest. load_byte seed (number * 8 + low) ∷ rest)
    (low_part seed number (suc low) count (omega arith) ∙ same_range (load_byte seed) (omega arith) refl)

-- the bytes of a place's word from that place on
pub part_of_word : (seed place count : ℕ) → place % 8 + count ≤ 8
    → take (place % 8 + count - place % 8) (drop (place % 8) (bytes_low_first 0 8 (load_word seed (place / 8)))) ≡ load_part seed place count
unfolding load_part
part_of_word seed place count within =
    let many : place % 8 + count - place % 8 ≡ count = omega arith in
    ap (λ n. take n (drop (place % 8) (bytes_low_first 0 8 (load_word seed (place / 8))))) many
    ∙ some_low 0 8 (load_word seed (place / 8)) (place % 8) count within
    ∙ same_low (load_word seed (place / 8)) count {other = place % 8} (omega arith)
    ∙ low_part seed (place / 8) (place % 8) count within
    ∙ same_range (load_byte seed) {other_first = place} (omega (arith, mod-add-div' place 8)) refl

-- where the generator stands after its next step
pub steps_on : (seed number step width : ℕ) → ((seed + number * step % width) % width + step) % width ≡ (seed + (number + 1) * step) % width
steps_on seed number step width =
    let turned : seed + number * step % width + step ≡ number * step % width + (seed + step) = omega arith in
    let once_more : number * step + (seed + step) ≡ seed + (number + 1) * step = grind arith in
    mod-add-mod (seed + number * step % width) width step
    ∙ ap (λ n. n % width) turned
    ∙ mod-add-mod (number * step) width (seed + step)
    ∙ ap (λ n. n % width) once_more

pub word-of_seed : (seed number : ℕ) → (mix_u64 ((seed + number * 0x9E3779B97F4A7C15 % 2 ^ 64) % 2 ^ 64)).0 ≡ load_word seed number
unfolding load_word
word-of_seed seed number = ap mixed (steps_on seed number 0x9E3779B97F4A7C15 (2 ^ 64))
  where
    mixed : ℕ → ℕ
    mixed start = let z = folded (folded start 30 0xBF58476D1CE4E5B9) 27 0x94D049BB133111EB in bit_xor z (z / 2 ^ 31)

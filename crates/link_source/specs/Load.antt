-- The bytes of a load: the words of SplitMix64 (Steele, Lea and Flood, "Fast Splittable Pseudorandom Number Generators",
-- 2014) from a seed on, each with its lowest byte first.
use Rattle.std.specs.Prelude.{ℕ, ◌+◌, ◌*◌, ◌/◌, ◌%◌, ◌^◌, List, map, bit_xor}
use Rattle.std.specs.Int.{byte_at}
use Rattle.std.specs.List.{range_with_len}

-- z with its high bits folded down by so many places, times a factor, in 64 bits
abbrev pub folded : ℕ → ℕ → ℕ → ℕ
folded z places factor = bit_xor z (z / 2 ^ places) * factor % 2 ^ 64

-- the word of this number, from 0 on
unfoldable pub load_word : ℕ → ℕ → ℕ
load_word seed number =
    let start = (seed + (number + 1) * 0x9E3779B97F4A7C15) % 2 ^ 64 in
    let z = folded (folded start 30 0xBF58476D1CE4E5B9) 27 0x94D049BB133111EB in
    bit_xor z (z / 2 ^ 31)

-- the byte at this place
unfoldable pub load_byte : ℕ → ℕ → ℕ
load_byte seed place = byte_at (place % 8) (load_word seed (place / 8))

-- so many bytes from a place on
unfoldable pub load_part : ℕ → ℕ → ℕ → List ℕ
load_part seed first count = map (load_byte seed) (range_with_len first count)

-- so many from the first one on
unfoldable pub load_bytes : ℕ → ℕ → List ℕ
load_bytes seed len = load_part seed 0 len

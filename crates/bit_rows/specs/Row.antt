-- Rows of bits, and how bytes hold them (BEP 3, `bitfield`: the high bit in the first byte is index 0, and spare bits
-- at the end are 0).
use Rattle.std.specs.Prelude.{ℕ, ◌+◌, ◌-◌, ◌*◌, ◌==◌, ◌++◌, Bool, false, if◌then◌else◌, List, length, map, fold, take, drop, replicate}
use Rattle.std.specs.Int.{bit_at, div_ceil}
use Rattle.std.specs.List.{flat_map, range_with_len}

-- the bits of a byte, the highest first
abbrev pub bits_of_byte : ℕ → List Bool
bits_of_byte byte = map (λ place. bit_at byte (7 - place) == 1) (range_with_len 0 8)

-- the bits of bytes, one byte after another
abbrev pub bits_of : List ℕ → List Bool
bits_of bytes = flat_map bits_of_byte bytes

-- the first n bits of bytes ..
abbrev pub row_of : ℕ → List ℕ → List Bool
row_of n bytes = take n (bits_of bytes)

-- .. and the bits behind them
abbrev pub spare_bits : ℕ → List ℕ → List Bool
spare_bits n bytes = drop n (bits_of bytes)

-- as many bytes as hold n bits
abbrev pub bytes_for : ℕ → ℕ
bytes_for n = div_ceil n 8

-- the number that bits write in base two, the highest first
abbrev pub bits_number : List Bool → ℕ
bits_number bits = fold (λ n bit. 2 * n + (if bit then 1 else 0)) 0 bits

-- the row, and 0 bits behind it up to a whole byte
abbrev pub padded : List Bool → List Bool
padded row = row ++ replicate (8 * bytes_for (length row) - length row) false

-- the bytes of a row: each is the number of eight bits
abbrev pub row_bytes : List Bool → List ℕ
row_bytes row = map (λ at. bits_number (take 8 (drop (8 * at) (padded row)))) (range_with_len 0 (bytes_for (length row)))

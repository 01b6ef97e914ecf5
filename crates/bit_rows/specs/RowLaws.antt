-- Rows and their bytes determine each other.
use Rattle.std.specs.Prelude.{◌≡◌, ◌<◌, ℕ, Bool, true, List, length, All, Contains}
use Rattle.bit_rows.specs.Row.{bytes_for, row_bytes, row_of, spare_bits}

-- the bytes of a row are as many as hold it, it is read from them, and no spare bit of them is set
pub record ReadsBack (row : List Bool) : Type 0 where
  pub many : length (row_bytes row) ≡ bytes_for (length row)
  pub same : row_of (length row) (row_bytes row) ≡ row
  pub clear : ¬ Contains (spare_bits (length row) (row_bytes row)) true

-- as many bytes as hold n bits, without a spare bit set, are those of a row of n bits
pub record HoldsRow (n : ℕ) (bytes : List ℕ) : Type 0 where
  pub long : length (row_of n bytes) ≡ n
  pub same : row_bytes (row_of n bytes) ≡ bytes

abbrev pub RowsAreReadBack : Type 0
RowsAreReadBack = (row : List Bool) → ReadsBack row

abbrev pub BytesHoldRows : Type 0
BytesHoldRows =
    (n : ℕ) (bytes : List ℕ) → All (λ byte. byte < 256) bytes → length bytes ≡ bytes_for n
    → ¬ Contains (spare_bits n bytes) true → HoldsRow n bytes

-- What is kept of a row.
use Rattle.std.specs.Prelude.{◌≡◌, ℕ, ◌-◌, ◌*◌, false, List, length, replicate, count_by}
use Rattle.bit_rows.specs.Row.{bytes_for, row_of, spare_bits}

-- the bytes hold a row of len bits with no spare bit set, and ones of the bits are true
pub record KeepsRow (bytes : List ℕ) (len ones : ℕ) : Type 0 where
  pub fits : length bytes ≡ bytes_for len
  pub spare : spare_bits len bytes ≡ replicate (8 * length bytes - len) false
  pub counted : ones ≡ count_by (λ bit. bit) (row_of len bytes)

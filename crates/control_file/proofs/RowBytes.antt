-- The bytes of rows.
use Rattle.std.proofs.Common.{◌≡◌, Bool, List, length}
use Rattle.std.proofs.lemmas.List.FromFn.{length-map-range_with_len}
use Rattle.bit_rows.specs.Row.{bytes_for, row_bytes}

pub bytes_of_len : (row : List Bool) → length (row_bytes row) ≡ bytes_for (length row)
bytes_of_len row = length-map-range_with_len _ 0 (bytes_for (length row))

-- What is kept beside a download's progress.
use Rattle.std.specs.Prelude.{◌≡◌, ℕ, ◌<◌, Bool, List, length, slice_index}
use Rattle.dl_kinds.specs.Plan.{pieces_of}
use Rattle.piece_table.specs.Progress.{Progress, IsValid, landed_count}
use Rattle.piece_table.specs.Sums.{completed_of, verified_bytes_of}

-- the number of each piece's landed blocks
pub record AreCounts (total piece_len : ℕ) (landed : List Bool) (held : List ℕ) : Type 0 where
  pub pieces : length held ≡ pieces_of total piece_len
  pub each : (piece : ℕ) → piece < pieces_of total piece_len → slice_index held piece ≡ landed_count total piece_len landed piece

-- those numbers, and the sums of the sizes
pub record KeepsTable (p : Progress) (held : List ℕ) (completed verified_bytes : ℕ) : Type 0 where
  pub valid : IsValid p
  pub counts : AreCounts p.total p.piece_len p.landed held
  pub landed_sum : completed ≡ completed_of p
  pub verified_sum : verified_bytes ≡ verified_bytes_of p

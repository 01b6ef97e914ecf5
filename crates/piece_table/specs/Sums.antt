-- The bytes of sets of blocks and of pieces.
use Rattle.std.specs.Prelude.{ℕ, ◌-◌, Bool, if◌then◌else◌, List, sum_by}
use Rattle.std.specs.List.{enumerate_from}
use Rattle.dl_kinds.specs.Plan.{block_start, block_end, piece_start, piece_end}
use Rattle.piece_table.specs.Progress.{Progress}

-- the bytes of a block
abbrev pub block_bytes : ℕ → ℕ → ℕ → ℕ
block_bytes total piece_len block = block_end total piece_len block - block_start piece_len block

-- the bytes of a piece
abbrev pub piece_bytes : ℕ → ℕ → ℕ → ℕ
piece_bytes total piece_len piece = piece_end total piece_len piece - piece_start piece_len piece

-- the sizes of the places that are true, added up
abbrev pub sum_where : (ℕ → ℕ) → List Bool → ℕ
sum_where size xs = sum_by (λ place. if place.1 then size place.0 else 0) (enumerate_from 0 xs)

-- the bytes of the landed blocks
abbrev pub completed_of : Progress → ℕ
completed_of p = sum_where (block_bytes p.total p.piece_len) p.landed

-- the bytes of the verified pieces
abbrev pub verified_bytes_of : Progress → ℕ
verified_bytes_of p = sum_where (piece_bytes p.total p.piece_len) p.verified

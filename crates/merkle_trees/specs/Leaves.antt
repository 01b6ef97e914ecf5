-- Leaves of hash trees (BEP 52): SHA-256 of the consecutive blocks of bytes, the last one shorter.
use Rattle.std.specs.Prelude.{ℕ, ◌*◌, List, length, map}
use Rattle.std.specs.Int.{div_ceil}
use Rattle.std.specs.List.{range_with_len}
use Rattle.sha2.specs.Sha256.{sha256}
use Rattle.dl_kinds.specs.Lists.{part_at}
use Rattle.dl_kinds.specs.declared.plan.TheConstants.{BLOCK_LEN}

-- the block at this place
abbrev pub block_at : List ℕ → ℕ → List ℕ
block_at bytes place = part_at bytes (place * BLOCK_LEN) BLOCK_LEN

-- the leaf of each block
abbrev pub leaves_of : List ℕ → List (List ℕ)
leaves_of bytes = map (λ place. sha256 (block_at bytes place)) (range_with_len 0 (div_ceil (length bytes) BLOCK_LEN))

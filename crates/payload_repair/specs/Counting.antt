-- Counts of pieces and of blocks.
use Rattle.std.specs.Prelude.{◌≡◌, ℕ, ◌+◌, ◌*◌, ◌^◌, ◌<◌, ◌≤◌}
use Rattle.dl_kinds.specs.declared.plan.TheConstants.{BLOCK_LEN}
use Rattle.payload_repair.specs.declared.counts.Counts.{Counts}

-- those of no pieces
abbrev pub no_counts : Counts
no_counts = record { pieces = 0; right = 0; repaired = 0; blocks = 0 }

-- those of two parts
abbrev pub plus : Counts → Counts → Counts
plus a b = record {
  pieces = a.pieces + b.pieces;
  right = a.right + b.right;
  repaired = a.repaired + b.repaired;
  blocks = a.blocks + b.blocks;
}

-- each is a number of 32 bits
pub record AreSmall (counts : Counts) : Type 0 where
  pub pieces : counts.pieces < 2 ^ 32
  pub right : counts.right < 2 ^ 32
  pub repaired : counts.repaired < 2 ^ 32
  pub blocks : counts.blocks < 2 ^ 32

-- they are of so many pieces, with so many bytes
pub record AreOf (count len : ℕ) (counts : Counts) : Type 0 where
  pub pieces : counts.pieces ≡ count
  pub each : counts.right + counts.repaired ≤ count
  pub blocks : counts.blocks * BLOCK_LEN ≤ len + count * BLOCK_LEN

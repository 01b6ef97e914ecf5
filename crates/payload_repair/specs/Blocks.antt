-- Blocks of a piece that are written into a file.
use Rattle.std.specs.Prelude.{◌≡◌, ℕ, ◌+◌, ◌*◌, ◌<◌, ◌≤◌, List, length, All, Contains}
use Rattle.dl_kinds.specs.Lists.{part_at}
use Rattle.dl_kinds.specs.declared.plan.TheConstants.{BLOCK_LEN}
use Rattle.merkle_trees.specs.Leaves.{block_at}

-- the bytes have a block at each of these places
abbrev pub HavePlaces : List ℕ → List ℕ → Type 0
HavePlaces bytes places = All (λ place. place * BLOCK_LEN < length bytes) places

-- Of the bytes from one place of a file to another, this one lies in a block at one of these places.
pub record IsInBlocks (start end : ℕ) (places : List ℕ) (i : ℕ) : Type 0 where
  pub place : ℕ
  pub listed : Contains places place
  pub from : start + place * BLOCK_LEN ≤ i
  pub to : i < start + (place + 1) * BLOCK_LEN
  pub within : i < end

-- From this byte of the file on, the blocks at these places are those of the bytes, and the others are the same. The file
-- is as long as it was.
pub record HasBlocks (start : ℕ) (bytes places old new : List ℕ) : Type 0 where
  pub size : length new ≡ length old
  pub written : (place : ℕ) → Contains places place
      → block_at (part_at new start (length bytes)) place ≡ block_at bytes place
  pub others : (place : ℕ) → ¬ Contains places place
      → block_at (part_at new start (length bytes)) place ≡ block_at (part_at old start (length bytes)) place

-- where the file reaches so far
abbrev pub PutsBlocks : ℕ → List ℕ → List ℕ → List ℕ → List ℕ → Type 0
PutsBlocks start bytes places old new = start + length bytes ≤ length old → HasBlocks start bytes places old new

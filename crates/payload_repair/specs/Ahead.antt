-- Pieces that are hashed ahead.
use Rattle.std.specs.Prelude.{◌≡◌, ◌+◌, ◌*◌, ◌<◌, ◌≤◌, ℕ, true, false, Bool, List, length, slice_index_or}
use Rattle.dl_disk.specs.Files.{Files}
use Rattle.dl_kinds.specs.Lists.{part_at}
use Rattle.merkle_trees.specs.Leaves.{leaves_of}
use Rattle.payload_repair.specs.Jobs.{hashed, own_bytes}
use Rattle.payload_repair.specs.Pieces.{has_hash, is_right, piece_ends_at, piece_size, piece_starts_at}
use Rattle.payload_repair.specs.declared.job.RepairJob.{RepairJob}

-- so many pieces from the first one on are right
abbrev pub AreRight : RepairJob → (count first : ℕ) → Files → Type 0
AreRight job count first seen =
    (k : ℕ) → k < count → is_right (hashed job) (own_bytes job seen) (first + k) ≡ true

-- these bytes, which stand at a place of the file, are a whole piece with its hash
pub record IsRightAt (job : RepairJob) (piece at : ℕ) (bytes : List ℕ) : Type 0 where
  pub exists : piece < job.plan.pieces
  pub start : at ≡ piece_starts_at (hashed job) piece
  pub size : length bytes ≡ piece_size (hashed job) piece
  pub reached : piece_ends_at (hashed job) piece ≤ job.len
  pub hash : has_hash (hashed job) (leaves_of bytes) piece ≡ true

-- .. the one at this place of several whole pieces, which stand there one behind the other
abbrev pub IsRightPart : RepairJob → (first at : ℕ) → List ℕ → ℕ → Type 0
IsRightPart job first at bytes place =
    IsRightAt job (first + place) (at + place * job.plan.piece_len)
    (part_at bytes (place * job.plan.piece_len) job.plan.piece_len)
    × (place * job.plan.piece_len + job.plan.piece_len ≤ length bytes)

-- each of them that is marked
abbrev pub AreRightParts : RepairJob → (first at : ℕ) → List ℕ → List Bool → Type 0
AreRightParts job first at bytes marks =
    (place : ℕ) → place < length marks → slice_index_or marks place false ≡ true → IsRightPart job first at bytes place

-- the marks of the first ones are set
abbrev pub AreMarked : List Bool → ℕ → Type 0
AreMarked marks count = (place : ℕ) → place < count → (place < length marks) × (slice_index_or marks place false ≡ true)

-- the first ones, so many
abbrev pub AreRightUpTo : RepairJob → (first at : ℕ) → List ℕ → ℕ → Type 0
AreRightUpTo job first at bytes count = (place : ℕ) → place < count → IsRightPart job first at bytes place

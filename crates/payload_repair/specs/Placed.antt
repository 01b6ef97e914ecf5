-- What stands of a file once a piece of it is repaired.
use Rattle.std.specs.Prelude.{◌≡◌, ◌<◌, ◌≤◌, ℕ, List, length, IfSome, Contains}
use Rattle.dl_disk.specs.Files.{Files, file_bytes}
use Rattle.dl_disk.specs.State.{DiskState}
use Rattle.dl_kinds.specs.Lists.{part_at}
use Rattle.merkle_trees.specs.Leaves.{leaves_of}
use Rattle.payload_repair.specs.Jobs.{hashed}
use Rattle.payload_repair.specs.Pieces.{leaves_in_piece}
use Rattle.payload_repair.specs.declared.job.RepairJob.{RepairJob}

-- the bytes of the file now
abbrev pub own_content : RepairJob → Files → List ℕ
own_content job seen = file_bytes (seen job.name.now)

-- the leaves of so many of these bytes, from a place on
abbrev pub leaves_from : ℕ → ℕ → List ℕ → List (List ℕ)
leaves_from start count content = leaves_of (part_at content start count)

-- from this place on the content has the leaves of these bytes
abbrev pub HasLeavesOf : List ℕ → List ℕ → ℕ → Type 0
HasLeavesOf bytes content start = leaves_from start (length bytes) content ≡ leaves_of bytes

-- The file has its length, and its folder was made where it was short or missing.
pub record IsFitted (job : RepairJob) (disk : DiskState) : Type 0 where
  pub len : job.plan.total ≤ length (own_content job disk.seen)
  pub made : job.len < job.plan.total → IfSome job.folder (λ folder. Contains disk.folders folder.now)

-- and the piece has these leaves
pub record IsInPlace (job : RepairJob) (piece : ℕ) (leaves : List (List ℕ)) (disk : DiskState) : Type 0 where
  pub leaves_are : leaves_in_piece (hashed job) (own_content job disk.seen) piece ≡ leaves
  pub fitted : IsFitted job disk

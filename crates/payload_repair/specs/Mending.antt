-- What the check and the repair of pieces do.
use Rattle.std.specs.Prelude.{◌<◌, ℕ, IsTrue}
use Rattle.dl_disk.specs.Files.{Files, IsSame}
use Rattle.dl_disk.specs.State.{DiskState}
use Rattle.payload_repair.specs.Jobs.{hashed, own_bytes, copy_bytes}
use Rattle.payload_repair.specs.Pieces.{leaves_in_piece}
use Rattle.payload_repair.specs.Placed.{IsInPlace}
use Rattle.payload_repair.specs.Repairs.{MendsPiece, MendsPieces, is_mended}
use Rattle.payload_repair.specs.StepsBy.{StepsBy}
use Rattle.payload_repair.specs.declared.job.RepairJob.{RepairJob}

-- whether a piece of the file is repaired, by what stands before
abbrev pub IsMended : RepairJob → Files → ℕ → Type 0
IsMended job seen piece = IsTrue (is_mended (hashed job) (own_bytes job seen) (copy_bytes job seen) piece)

-- whether it is done or fails: no more is changed than the blocks that are written, and nothing where none is
pub record ChangesPiece (job : RepairJob) (piece : ℕ) (old new : DiskState) : Type 0 where
  pub steps : StepsBy (MendsPiece job.name.now (hashed job) (own_bytes job old.seen) (copy_bytes job old.seen) piece) old new
  pub spared : ¬ IsMended job old.seen piece → StepsBy IsSame old new

-- where the piece is repaired it has the leaves of the copy's
abbrev pub PutsPiece : RepairJob → ℕ → DiskState → DiskState → Type 0
PutsPiece job piece old new =
    IsMended job old.seen piece → IsInPlace job piece (leaves_in_piece (hashed job) (copy_bytes job old.seen) piece) new

-- the same of the first pieces
pub record ChangesPieces (job : RepairJob) (count : ℕ) (old new : DiskState) : Type 0 where
  pub steps : StepsBy (MendsPieces job.name.now (hashed job) (own_bytes job old.seen) (copy_bytes job old.seen) count) old new
  pub spared : ((piece : ℕ) → piece < count → ¬ IsMended job old.seen piece) → StepsBy IsSame old new

abbrev pub PutsPieces : RepairJob → ℕ → DiskState → DiskState → Type 0
PutsPieces job count old new = (piece : ℕ) → piece < count → PutsPiece job piece old new

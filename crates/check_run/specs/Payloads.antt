-- What the check of a payload makes of a disk (BEP 52).
use Rattle.std.specs.Prelude.{◌≡◌, ◌≢◌, ℕ, List, Some, slice_get, Result, IfOk, OnOk}
use Rattle.dl_disk.specs.Files.{Files}
use Rattle.dl_disk.specs.State.{DiskState, LeftSince}
use Rattle.meta_v2.specs.declared.files.FileV2.{FileV2}
use Rattle.payload_files.specs.Names.{name_of}
use Rattle.payload_repair.specs.Promises.{KeepsWhatIsRight, LastsAll, RepairTask, RepairsAll, SharesNoFile, WritesNoMore, counts_by}
use Rattle.payload_repair.specs.Whole.{AreSynced}
use Rattle.payload_repair.specs.declared.counts.Counts.{Counts}
use Rattle.payload_repair.specs.declared.repair_err.RepairErr.{RepairErr}

-- no file of the payload has this name
abbrev pub IsOtherFile : RepairTask → List ℕ → Type 0
IsOtherFile task name = (k : ℕ) (file : FileV2) → slice_get task.files k ≡ Some file → name_of task.dir file.path ≢ name

-- Other files read as before, and what a crash at any moment since leaves of one might have been left before.
pub record LeavesOtherFiles (task : RepairTask) (old new : DiskState) : Type 0 where
  pub seen : (name : List ℕ) → IsOtherFile task name → new.seen name ≡ old.seen name
  pub images : (name : List ℕ) → IsOtherFile task name → (image : Files) → LeftSince new old.moment image
      → (before : Files) × old.may_leave before × (image name ≡ before name)

-- What a repair that answers so promises, where the two folders share no file:
pub record MendsPayload (task : RepairTask) (old new : DiskState) (answer : Result Counts RepairErr) : Type 0 where
  -- What is counted is what stood before.
  pub counts : IfOk answer (λ counts. SharesNoFile task → counts ≡ counts_by task old.seen)
  -- Pieces that were right in either folder are right, and in a file that was neither short nor missing no other.
  pub repaired : OnOk answer (SharesNoFile task → RepairsAll task old new)
  -- No more is written than the blocks that differ, in wrong pieces that are right in the copy, and all of them in files
  -- that were short or missing.
  pub blocks : SharesNoFile task → WritesNoMore task old new
  -- A piece that was right whatever a crash left stays so at each moment.
  pub kept : SharesNoFile task → KeepsWhatIsRight task old new
  -- At the end each right piece is right whatever a crash leaves, and each file that is there lasts as it reads.
  pub lasts : OnOk answer (LastsAll task new)
  pub synced : OnOk answer (AreSynced task.dir task.files new)
  pub others : SharesNoFile task → LeavesOtherFiles task old new

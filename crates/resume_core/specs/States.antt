-- What the calls of the store do to a disk, from the state before a call to the state after it.
use Rattle.std.specs.Prelude.{◌≡◌, ℕ, List, Option, Some, None, IsSome, get_or, slice_get}
use Rattle.dl_disk.specs.Files.{Follows}
use Rattle.dl_disk.specs.Passes.{Passes, Performs}
use Rattle.dl_disk.specs.State.{DiskState, IsDurable, LeftSince}
use Rattle.payload_files.specs.Names.{name_of}
use Rattle.span_map.specs.declared.files.FileLen.{FileLen}
use Rattle.control_file.specs.declared.want.Want.{Want}
use Rattle.piece_table.specs.Progress.{Progress}
use Rattle.resume_core.specs.Resume.{AreSound}
use Rattle.resume_core.specs.Steps.{SameBut, SameFor, Finishes}
use Rattle.resume_core.specs.Tables.{SavesTable, GiveOldOrTable}
use Rattle.resume_core.specs.Wants.{temporary_name, files_in}

-- the payload reads as before
abbrev pub SamePayload : Want → DiskState → DiskState → Type 0
SamePayload want old new = files_in want new.seen ≡ files_in want old.seen

-- the want's files are the same, in what is read and at each moment in what a crash may leave
pub record KeepsFor (want : Want) (old new : DiskState) : Type 0 where
  pub seen : SameFor want old.seen new.seen
  pub passes : Passes (SameFor want) old new

-- the file of this number lasts, where one stood by the lengths that were found
abbrev pub LastsWhereStood : Want → List (Option ℕ) → ℕ → DiskState → Type 0
LastsWhereStood want lens k disk =
    (file : FileLen) → slice_get want.layout k ≡ Some file → IsSome (get_or lens k None)
    → IsDurable (name_of want.dir file.path) disk

-- where each image was sound and agreed with what the disk read, each image since is and does
abbrev pub StaysSound : Want → DiskState → DiskState → Type 0
StaysSound want old new = AreSound want old.seen old.may_leave → AreSound want new.seen (LeftSince new old.moment)

-- each image is an earlier one, but for the temporary file
abbrev pub LeavesTemporary : Want → DiskState → DiskState → Type 0
LeavesTemporary want old new = Follows (SameBut (temporary_name want)) old.may_leave new.may_leave

-- whatever a crash leaves, it is an image from before the call, or such a one without its control file
abbrev pub PerformsFinish : Want → DiskState → DiskState → Type 0
PerformsFinish want old new = Performs (Finishes want old.seen) old new

-- whatever a crash leaves, it is an image from before the call, or such a one with the new control file
abbrev pub PerformsSave : Want → Progress → DiskState → DiskState → Type 0
PerformsSave want table old new = Performs (SavesTable want table old.seen) old new

-- each image since gives what one before gave, or what the table lists
abbrev pub GivesOldOrTable : Want → Progress → DiskState → DiskState → Type 0
GivesOldOrTable want table old new = GiveOldOrTable want table old.may_leave (LeftSince new old.moment)

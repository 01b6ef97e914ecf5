-- What a run leaves on the disk that it was given, whenever a crash comes. The newest of its turns is the first.
use Rattle.std.specs.Prelude.{◌≡◌, ◌≤◌, ℕ, false, true, Some, Contains, List, length, slice_index_or}
use Rattle.control_file.specs.Wants.{IsListedWant}
use Rattle.control_file.specs.declared.want.Want.{Want}
use Rattle.dl_disk.specs.Files.{Files}
use Rattle.dl_disk.specs.State.{DiskState, LeftSince}
use Rattle.dl_kinds.specs.declared.gid.Gid.{Gid}
use Rattle.engine_core.specs.Askings.{IsOpenedWant, IsWrittenAlone}
use Rattle.engine_core.specs.Beginnings.{GoesOnFrom}
use Rattle.engine_core.specs.Durable.{Holds, KeepsPromises}
use Rattle.engine_turns.specs.Told.{RunTurn, history_of}
use Rattle.machine_core.specs.RunLegal.{IsLegal, download_in, known_lengths}
use Rattle.machine_core.specs.Starts.{Download, RunStart}
use Rattle.machine_core.specs.Wanted.{wanted_pieces}
use Rattle.machine_core.specs.declared.ends.End.TheVariants.{Complete}
use Rattle.machine_core.specs.declared.events.Event.{Event}
use Rattle.machine_core.specs.declared.events.Event.TheVariants.{Ended}
use Rattle.resume_core.specs.Resume.{Agrees, AreSound, HasDigest, ReachesPiece, Sound}
use Rattle.resume_core.specs.Wants.{files_in}

-- No other want that the run asks for shares a name with this one, and each image was sound for it.
pub record WasSound (start : RunStart) (told : List RunTurn) (given : DiskState) (want : Want) : Type 0 where
  pub alone : IsWrittenAlone start told want
  pub sound : AreSound want given.seen given.may_leave

-- the options choose the piece
pub record IsWantedPiece (start : RunStart) (past : List Event) (gid : Gid) (piece : ℕ) : Type 0 where
  pub download : Download
  pub added : download_in start past gid ≡ Some download
  pub wanted : slice_index_or (wanted_pieces download (known_lengths start past gid)) piece false ≡ true

-- a listed download is opened, and it is told that it is complete
pub record IsToldComplete (start : RunStart) (told : List RunTurn) (gid : Gid) (want : Want) : Type 0 where
  pub complete : Contains (history_of told) (Ended gid Complete)
  pub opened : IsOpenedWant start told gid want
  pub listed : IsListedWant want

-- the files have all bytes of the piece, and these have its digest
abbrev pub IsRightPiece : Want → Files → ℕ → Type 0
IsRightPiece want image piece = ReachesPiece want (files_in want image) piece × HasDigest want (files_in want image) piece

-- Where each image of the given disk was sound for it, each of its wanted pieces is right in every image, and what the disk
-- reads is one of them.
abbrev pub HaveDigests : RunStart → List RunTurn → (given disk : DiskState) → Type 0
HaveDigests start told given disk =
    (gid : Gid) (want : Want) → IsToldComplete start told gid want → WasSound start told given want
    → (piece : ℕ) → IsWantedPiece start (history_of told) gid piece
    → (image : Files) → disk.may_leave image → IsRightPiece want image piece

-- Of a want: whatever a crash at any moment since leaves is sound; what one leaves now agrees with what the disk reads, and,
-- where the want was opened, gives what the saves promised, or the payload stands whole.
pub record SurvivesCrash (start : RunStart) (told : List RunTurn) (since : ℕ) (disk : DiskState) (want : Want)
    : Type 0 where
  pub sound : (image : Files) → LeftSince disk since image → Sound want image
  pub agrees : (image : Files) → disk.may_leave image → Agrees want disk.seen image
  pub holds : (gid : Gid) → IsOpenedWant start told gid want → (image : Files) → disk.may_leave image
      → Holds start told told gid want disk.seen image

module _ {D : Type 0} (state : D → DiskState) where
  -- a legal run, whose turns have taken the disk from the one that was given to this one
  pub record IsRun (start : RunStart) (told : List RunTurn) (given now : D) : Type 0 where
    pub legal : IsLegal start (history_of told)
    pub keeps : KeepsPromises start told (state now)
    pub goes_on : GoesOnFrom told (state given) (state now)
    pub some : 1 ≤ length told

  abbrev pub CompletedAreRight : Type 0
  CompletedAreRight =
      (start : RunStart) (told : List RunTurn) (given now : D) → IsRun start told given now
      → HaveDigests start told (state given) (state now)

  abbrev pub CrashesKeepRuns : Type 0
  CrashesKeepRuns =
      (start : RunStart) (told : List RunTurn) (given now : D) → IsRun start told given now
      → (want : Want) → WasSound start told (state given) want
      → SurvivesCrash start told (state given).moment (state now) want

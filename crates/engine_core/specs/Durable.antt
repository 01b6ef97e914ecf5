-- What a disk keeps of the downloads of a run, whenever a crash comes.
use Rattle.std.specs.Prelude.{◌≡◌, ◌⊎◌, ◌≤◌, ℕ, Bool, true, List, ◌∷◌, ◌++◌}
use Rattle.control_file.specs.Wants.{IsWant}
use Rattle.control_file.specs.declared.want.Want.{Want}
use Rattle.dl_disk.specs.Files.{Files}
use Rattle.dl_disk.specs.State.{DiskState, LeftSince, ReadSince}
use Rattle.dl_history.specs.OwnEvents.{OwnEvent}
use Rattle.dl_kinds.specs.declared.gid.Gid.{Gid}
use Rattle.durable_progress.specs.Promises.{GivesPromised, StandsWhole}
use Rattle.engine_turns.specs.Told.{RunTurn, history_of}
use Rattle.machine_core.specs.OwnParts.{own_of}
use Rattle.machine_core.specs.Starts.{RunStart}
use Rattle.payload_files.specs.Payload.{HasFiles}
use Rattle.resume_core.specs.Resume.{AreSound, Agrees, Sound}
use Rattle.engine_core.specs.Askings.{AreAsked, AreInOrder, IsDoneSince, IsOpenedWant, IsReopened, IsWrittenAlone, is_completed_in}

-- ---- one image

-- An opening from the image gives what the saves of the download promise by its events `own`, where `later` ones followed.
-- Once its want was reopened the pieces count alone.
abbrev pub GivesSaves : RunStart → List RunTurn → Gid → Want → (later own : List OwnEvent) → Bool → Files → Type 0
GivesSaves start told gid want later own complete image =
    (again : Bool) → (IsReopened start told gid want → again ≡ true) → GivesPromised want later own complete again image

-- .. or the payload stands whole, as the disk reads it, without a control file
abbrev pub GivesOrStands : RunStart → List RunTurn → Gid → Want → (later own : List OwnEvent) → Bool → (seen image : Files)
    → Type 0
GivesOrStands start told gid want later own complete seen image =
    GivesSaves start told gid want later own complete image
    ⊎ (IsDoneSince start told gid want × StandsWhole want own complete seen image)

-- What the saves of a download promised after the turns `before` holds in the image, whatever came in the turns since.
abbrev pub Holds : RunStart → (before told : List RunTurn) → Gid → Want → (seen image : Files) → Type 0
Holds start before told gid want seen image =
    let own = own_of start (history_of before) gid in
    (later : List OwnEvent) → own_of start (history_of told) gid ≡ later ++ own
    → GivesOrStands start told gid want later own (is_completed_in (history_of before) gid) seen image

-- ---- all images of a moment

-- each holds what is promised of each download of the want
abbrev pub AllHold : RunStart → List RunTurn → Want → Files → (Files → Type 0) → Type 0
AllHold start told want seen images =
    (gid : Gid) → IsOpenedWant start told gid want → (image : Files) → images image
    → Holds start told told gid want seen image

-- what was promised after the turns `before` is kept since a moment
abbrev pub HoldSince : RunStart → (before told : List RunTurn) → Want → ℕ → DiskState → Type 0
HoldSince start before told want since disk =
    (gid : Gid) → IsOpenedWant start before gid want → (image : Files) → LeftSince disk since image
    → (seen : Files) × ReadSince disk since seen × Holds start before told gid want seen image

-- ---- since a moment

-- Where each image of a moment, after the turns `before`, was sound for the want, each image since is so, and each one now
-- agrees with what the disk reads; where each held what was promised then, that is kept since, and each one now holds what
-- is promised now.
pub record IsKeptSince (start : RunStart) (before told : List RunTurn) (want : Want) (since : ℕ) (disk : DiskState) : Type 0
  where
    pub sound : (image : Files) → LeftSince disk since image → Sound want image
    pub agrees : (image : Files) → disk.may_leave image → Agrees want disk.seen image
    pub hold : AllHold start before want (disk.seen_at since) (disk.left_at since)
        → AllHold start told want disk.seen disk.may_leave × HoldSince start before told want since disk

abbrev pub KeepsSince : RunStart → (before told : List RunTurn) → ℕ → DiskState → Type 0
KeepsSince start before told since disk =
    (want : Want) → IsWrittenAlone start told want → AreSound want (disk.seen_at since) (disk.left_at since)
    → IsKeptSince start before told want since disk

-- ---- a list of turns

-- each want that was opened is one of a payload that can be
abbrev pub AreWants : RunStart → List RunTurn → Type 0
AreWants start told =
    (want : Want) (gid : Gid) → IsWrittenAlone start told want → IsOpenedWant start told gid want → IsWant want

-- the files of each want that was opened have their lengths
abbrev pub HaveLengths : RunStart → List RunTurn → DiskState → Type 0
HaveLengths start told disk =
    (want : Want) (gid : Gid) → IsWrittenAlone start told want → IsOpenedWant start told gid want
    → HasFiles want.dir want.layout disk.seen

-- From the mark before each turn on all that is promised is kept.
pub record KeepsPromises (start : RunStart) (told : List RunTurn) (disk : DiskState) : Type 0 where
  pub asked : AreAsked start told
  pub ordered : AreInOrder start told
  pub wants : AreWants start told
  pub lengths : HaveLengths start told disk
  pub marks : (newer : List RunTurn) (t : RunTurn) (before : List RunTurn) → told ≡ newer ++ t ∷ before
      → (t.before.time ≤ disk.moment) × KeepsSince start before told t.before.time disk

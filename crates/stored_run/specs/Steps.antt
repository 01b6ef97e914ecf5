-- What the parts of a turn do, from one state of a run and its disk to the next.
use Rattle.std.specs.Prelude.{◌≡◌, ◌≢◌, ◌⊎◌, ◌+◌, ◌≤◌, ℕ, false, true, List, ◌++◌, Some}
use Rattle.control_file.specs.Wants.{IsListedWant}
use Rattle.control_file.specs.declared.want.Want.{Want}
use Rattle.dl_disk.specs.Files.{Files}
use Rattle.dl_disk.specs.State.{DiskState, LeftSince}
use Rattle.dl_history.specs.Listings.{listing_in}
use Rattle.dl_history.specs.OwnEvents.{OwnEvent}
use Rattle.dl_history.specs.PayloadParts.{is_verified_in}
use Rattle.dl_kinds.specs.declared.gid.Gid.{Gid}
use Rattle.durable_progress.specs.Held.{GivesListing}
use Rattle.engine_turns.specs.Faults.{CountsFaults}
use Rattle.engine_turns.specs.Phases.{Did, Phase, TurnStart}
use Rattle.engine_turns.specs.Standings.{RunStanding}
use Rattle.engine_turns.specs.Told.{history_after}
use Rattle.engine_turns.specs.declared.operations.Said.{Said}
use Rattle.engine_turns.specs.declared.outcome.Outcome.{Outcome}
use Rattle.machine_core.specs.declared.events.Event.{Event}
use Rattle.resume_core.specs.Openings.{HasControl, KeepsBesides, LacksControl}
use Rattle.resume_core.specs.Resume.{AreSound, HasDigest, Sound}
use Rattle.resume_core.specs.Sharing.{share_names}
use Rattle.resume_core.specs.States.{SamePayload}
use Rattle.resume_core.specs.Steps.{IsFinished}
use Rattle.resume_core.specs.Wants.{files_in}
use Rattle.stored_run.specs.Stored.{IsStored, saved_listing}
use Rattle.stored_run.specs.Views.{IsDoneOf, IsGoing, kept_want_of, own_in}
use Rattle.stored_run.specs.declared.run.StoredView.{StoredView}

-- ---- what a crash leaves of one download

-- the history between two others
pub record IsBetween (old between new : List OwnEvent) : Type 0 where
  pub first : List OwnEvent
  pub from : between ≡ first ++ old
  pub rest : List OwnEvent
  pub to : new ≡ rest ++ between

-- an opening from the image gives just what the last save of a history lists, or what a save then would
abbrev pub GivesSaved : Want → List OwnEvent → Files → Type 0
GivesSaved want own image =
    GivesListing want (saved_listing want own) image
    ⊎ GivesListing want (listing_in want.plan.total want.plan.piece_len own) image

-- at some moment between
abbrev pub IsLeftStored : Want → (old new : List OwnEvent) → Files → Type 0
IsLeftStored want old new image =
    (between : List OwnEvent) × IsBetween old between new × GivesSaved want between image

-- From one state of the disk to the next, while a download that is stored went from one history to another: each image
-- since gives what was saved at some moment, and is sound where all were; and the disk reads its control file.
pub record KeepsStored (want : Want) (was own : List OwnEvent) (old new : DiskState) : Type 0 where
  pub images : (image : Files) → LeftSince new old.moment image → IsLeftStored want was own image
  pub sound : AreSound want old.seen old.may_leave → (image : Files) → LeftSince new old.moment image → Sound want image
  pub control : HasControl want new.seen

-- .. and the files of wants that share no name with it are the same
pub record StoresOn (want : Want) (was own : List OwnEvent) (old new : DiskState) : Type 0 where
  pub besides : KeepsBesides want old new
  pub kept : IsStored want was old → KeepsStored want was own old new

-- The payload stands whole without its control file: each wanted piece is verified, and where all images were sound each
-- verified piece has its digest.
pub record IsLeftWhole (want : Want) (Whole : Type 0) (own : List OwnEvent) (old new : DiskState) (image : Files) : Type 0
  where
    pub verified : Whole
    pub finished : IsFinished want new.seen image
    pub right : AreSound want old.seen old.may_leave → IsListedWant want → (p : ℕ) → is_verified_in own p ≡ true
        → HasDigest want (files_in want new.seen) p

-- From one state of the disk to the next, while the download may have ended: each image since gives what was saved at some
-- moment, or the payload stands whole. Nothing of the download comes after that. Where the disk reads no control file any
-- more, each verified piece has its digest.
pub record EndsStored (want : Want) (Whole : Type 0) (was own : List OwnEvent) (old new : DiskState) : Type 0 where
  pub images : (image : Files) → LeftSince new old.moment image
      → IsLeftStored want was own image ⊎ IsLeftWhole want Whole own old new image
  pub sound : AreSound want old.seen old.may_leave → (image : Files) → LeftSince new old.moment image → Sound want image
  pub right : LacksControl want new.seen → AreSound want old.seen old.may_leave → IsListedWant want → (p : ℕ)
      → is_verified_in own p ≡ true → HasDigest want (files_in want new.seen) p

pub record EndsOn (want : Want) (Whole : Type 0) (was own : List OwnEvent) (old new : DiskState) : Type 0 where
  pub besides : KeepsBesides want old new
  pub kept : IsStored want was old → EndsStored want Whole was own old new

-- ---- a part of a turn

module _ {D : Type 0} where
  abbrev pub turn_from : StoredView D → ℕ → TurnStart
  turn_from r faults = record { start = r.machine.start; now = r.now; faults = faults }

  -- the start and the moment are the same, and what the disk is to keep is so still
  pub record RunStays (old new : StoredView D) : Type 0 where
    pub start : new.machine.start ≡ old.machine.start
    pub now : new.now ≡ old.now
    pub wants : (gid : Gid) (want : Want) → kept_want_of old gid ≡ Some want → kept_want_of new gid ≡ Some want

  -- the start and the moment are the same, what the disk is to keep is so still, and at most so many events came
  pub record Continues (events : ℕ) (old new : StoredView D) : Type 0 where
    pub start : new.machine.start ≡ old.machine.start
    pub now : new.now ≡ old.now
    pub room : old.machine.spare ≤ new.machine.spare + events
    pub wants : (gid : Gid) (want : Want) → kept_want_of old gid ≡ Some want → kept_want_of new gid ≡ Some want

  -- the events of a part, by the counts of the disk's faults before and after it
  abbrev pub DoesPart : (TurnStart → Phase) → (old : StoredView D) → ℕ → (new : StoredView D) → ℕ → Outcome → Type 0
  DoesPart P old faults new faults_after outcome =
      Did (λ from. P (turn_from old from)) old.machine.past faults new.machine.past faults_after outcome

  -- what it did on the disk for a download that is opened
  abbrev pub StoresGid : Gid → (old new : StoredView D) → (before after : DiskState) → Type 0
  StoresGid gid old new before after =
      (want : Want) → kept_want_of old gid ≡ Some want → StoresOn want (own_in old gid) (own_in new gid) before after

  -- .. where that may finish it
  abbrev pub EndsGid : Gid → (old new : StoredView D) → (before after : DiskState) → Type 0
  EndsGid gid old new before after =
      (want : Want) → kept_want_of old gid ≡ Some want
      → EndsOn want (IsDoneOf new gid) (own_in old gid) (own_in new gid) before after

  -- the payload of a download that is opened reads as it did
  abbrev pub KeepsPayload : Gid → StoredView D → (before after : DiskState) → Type 0
  KeepsPayload gid r before after =
      (want : Want) → kept_want_of r gid ≡ Some want → SamePayload want before after

  -- what it kept on the disk of each download that went on
  abbrev pub StoresEach : (old new : StoredView D) → (before after : DiskState) → Type 0
  StoresEach old new before after =
      (gid : Gid) (want : Want) → IsGoing old gid → kept_want_of old gid ≡ Some want
      → KeepsStored want (own_in old gid) (own_in new gid) before after

  -- the download is stored, and shares no name with another that goes on
  pub record IsStoredApart (r : StoredView D) (gid : Gid) (disk : DiskState) : Type 0 where
    pub stored : (want : Want) → kept_want_of r gid ≡ Some want → IsStored want (own_in r gid) disk
    pub apart : (other : Gid) (v w : Want) → IsGoing r other → other ≢ gid → kept_want_of r gid ≡ Some v
        → kept_want_of r other ≡ Some w → share_names v w ≡ false

-- ---- a whole operation

module _ {D : Type 0} where
  -- the standing of a run, as far as it is told by the history
  abbrev pub IsStandingOf : StoredView D → RunStanding → Type 0
  IsStandingOf r s = s.past ≡ r.machine.past

  -- The events of an operation and its answer, by the counts of the disk's faults before and after it. What is handed out
  -- and what the buckets hold is the caller's.
  pub record DoesRow (Row : TurnStart → RunStanding → List Event → Said → Type 0) (old : StoredView D) (faults : ℕ)
      (new : StoredView D) (faults_after : ℕ) (said : Said) : Type 0 where
    pub events : List Event
    pub grown : new.machine.past ≡ history_after old.machine.past events
    pub is : (from : ℕ) (s : RunStanding) → from ≤ faults → IsStandingOf old s → Row (turn_from old from) s events said
    pub later : faults ≤ faults_after
    pub counts : CountsFaults faults events faults_after

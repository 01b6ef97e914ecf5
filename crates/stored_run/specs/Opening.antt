-- What the opening of a download does.
use Rattle.std.specs.Prelude.{◌≡◌, ◌⊎◌, ◌≤◌, ◌+◌, ℕ, Bool, true, false, not, ◌==◌, Contains, IsSome, Option, Some, None, List, ◌∷◌, ◌++◌, length, slice_get}
use Rattle.std.specs.Option.{option_map_or}
use Rattle.control_file.specs.Wants.{IsListedWant, IsWant}
use Rattle.control_file.specs.declared.want.Opened.{Opened}
use Rattle.control_file.specs.declared.want.Want.{Want}
use Rattle.dl_disk.specs.Files.{Files}
use Rattle.dl_disk.specs.Passes.{Passes}
use Rattle.dl_disk.specs.State.{DiskState, LeftSince}
use Rattle.dl_history.specs.OwnEvents.{OwnEvent, Opens}
use Rattle.dl_history.specs.PayloadParts.{is_opened, is_verified_in}
use Rattle.dl_kinds.specs.declared.gid.Gid.{Gid}
use Rattle.engine_turns.specs.NextRows.{OpenRow}
use Rattle.engine_turns.specs.Phases.{IsOpeningRefusal, TurnStart}
use Rattle.engine_turns.specs.Standings.{AnswersOnly, RunStanding}
use Rattle.engine_turns.specs.declared.operations.Said.{Said}
use Rattle.engine_turns.specs.declared.operations.Said.TheVariants.{NoMemory}
use Rattle.machine_core.specs.Choices.{options_now}
use Rattle.machine_core.specs.Clashes.{IsBeforeOpening, SharesNoName}
use Rattle.machine_core.specs.DownloadWants.{HasWant}
use Rattle.machine_core.specs.MachineViews.{MachineView}
use Rattle.machine_core.specs.RunLegal.{download_in}
use Rattle.machine_core.specs.Starts.{Download, RunStart}
use Rattle.machine_core.specs.declared.ends.End.{End}
use Rattle.machine_core.specs.declared.ends.End.TheVariants as end
use Rattle.machine_core.specs.declared.events.Event.{Event}
use Rattle.machine_core.specs.declared.events.Event.TheVariants.{Ended, Opened as OpenedEvent}
use Rattle.option_set.specs.Values.{number_value}
use Rattle.option_set.specs.declared.kinds.Num.TheVariants.{CheckIntegrity}
use Rattle.payload_files.specs.Payload.{HasFiles}
use Rattle.resume_core.specs.Openings.{ComesOfBefore, FitsPayload, GivesPieces, GivesSeen, HasControl, KeepsBesides, KeepsGiven, KeepsPieces, LacksControl, OpensJust, OpensWhole, StretchesPayload, is_compared}
use Rattle.resume_core.specs.Refusals.{open_refusal}
use Rattle.resume_core.specs.Resume.{Agrees, AreSound, GivesAtLeast, HasDigest, Sound}
use Rattle.resume_core.specs.States.{KeepsFor, SamePayload, StaysSound}
use Rattle.resume_core.specs.Wants.{files_in}
use Rattle.resume_core.specs.declared.refusing.OpenErr.{OpenErr}
use Rattle.resume_core.specs.declared.refusing.OpenErr.TheVariants as refusal
use Rattle.stored_run.specs.Leavings.{AnyChange, IsLeft}
use Rattle.stored_run.specs.Steps.{EndsStored, IsLeftStored, IsLeftWhole}
use Rattle.stored_run.specs.Views.{IsDoneOf, IsGoing, kept_want_of, own_in}
use Rattle.stored_run.specs.Writings.{KeepsPayloads}
use Rattle.stored_run.specs.declared.run.StoredView.{StoredView}

-- ---- refusals

-- the end that a refusal of the store makes; a fault of the disk has its count, and want of memory ends none
abbrev pub end_by_refusal : OpenErr → ℕ → Option End
end_by_refusal (refusal.Exists length) faults = Some (end.Exists length)
end_by_refusal (refusal.PieceLength have want) faults = Some (end.PieceLength have want)
end_by_refusal (refusal.Length have want) faults = Some (end.Length have want)
end_by_refusal refusal.InfoHash faults = Some end.InfoHash
end_by_refusal (refusal.Unreadable at) faults = Some (end.Unreadable at)
end_by_refusal refusal.Disk faults = Some (end.Disk faults)
end_by_refusal refusal.NoMemory faults = None

-- the store refused for this since so many faults of the disk
abbrev pub IsRefusedSince : ℕ → End → Type 0
IsRefusedSince faults how = (at : TurnStart) → at.faults ≤ faults → IsOpeningRefusal at how

-- a fault of the disk ended it
abbrev pub IsDiskEnd : End → Type 0
IsDiskEnd how = (count : ℕ) × (how ≡ end.Disk count)

-- ---- wants

-- more places, without a want, behind those before, at most as far as this one
pub record HoldsPlace (old new : List (Option Want)) (place : ℕ) : Type 0 where
  pub more : List (Option Want)
  pub is : new ≡ old ++ more
  pub none : (i : ℕ) (want : Want) → slice_get more i ≡ Some (Some want) → ⊥
  pub few : (length more ≡ 0 → ⊥) → length new ≤ place + 1

-- whether the pieces of a download are compared, whatever a control file lists
abbrev pub is_checked_in : RunStart → List Event → Gid → Bool
is_checked_in start past gid =
    option_map_or (λ (d : Download). not (number_value (options_now start past d) CheckIntegrity == 0)) (download_in start past gid)
    false

-- What is known of a download whose store is asked to open it: it is to be opened, this is its want, and no download that
-- goes on shares a name with it.
pub record IsToResume (m : MachineView) (gid : Gid) (want : Want) : Type 0 where
  pub before : IsBeforeOpening m gid
  pub has : HasWant m.start m.past gid want
  pub sound : IsWant want
  pub apart : SharesNoName m gid

-- ---- the disk

-- What the store did with the files of a want that it was asked to open: those of wants that share no name with it are the
-- same; what was sound is so still; no image gives less than one gave before, where a control file stood or the files were
-- whole; whole files stay so; what stood in a file stands still; and where there is a reason to refuse it, nothing
-- changes.
pub record OpensOn (want : Want) (check : Bool) (old new : DiskState) : Type 0 where
  pub besides : KeepsBesides want old new
  pub sound : StaysSound want old new
  pub gives : HasControl want old.seen → is_compared want check ≡ false → KeepsGiven want old new
  pub pieces : HasControl want old.seen → AreSound want old.seen old.may_leave → KeepsPieces want old new
  pub whole : LacksControl want old.seen → HasFiles want.dir want.layout old.seen → KeepsGiven want old new
  pub over_whole : HasFiles want.dir want.layout old.seen → OpensWhole (is_compared want check) want old new
  pub stretches : StretchesPayload want old.seen new.seen
  pub refusable : IsSome (open_refusal want old.seen) → (each : Want) → KeepsFor each old new

-- ---- parts of a run

module _ {D : Type 0} where
  abbrev pub is_checked_of : StoredView D → Gid → Bool
  is_checked_of r gid = is_checked_in r.machine.start r.machine.past gid

  -- nothing happened, and what the disk is to keep is the same
  pub record StandsStill (old new : StoredView D) : Type 0 where
    pub machine : new.machine ≡ old.machine
    pub now : new.now ≡ old.now
    pub wants : (gid : Gid) → kept_want_of new gid ≡ kept_want_of old gid

  -- the own events of the download, with its opening
  abbrev pub own_opened : StoredView D → Gid → Opened → List OwnEvent
  own_opened r gid opened = Opens opened.verified opened.blocks r.now ∷ own_in r gid

  -- the download was opened with these rows, and this is what the disk is to keep of it
  pub record OpensWith (gid : Gid) (want : Want) (opened : Opened) (old new : StoredView D) : Type 0 where
    pub past : new.machine.past ≡ OpenedEvent gid opened.verified opened.blocks old.now ∷ old.machine.past
    pub own : own_in new gid ≡ own_opened old gid opened
    pub kept : kept_want_of new gid ≡ Some want
    pub going : IsGoing new gid

  -- .. with rows that hold
  abbrev pub OpensWhere : (Opened → Type 0) → Gid → Want → (old new : StoredView D) → Type 0
  OpensWhere P gid want old new = (opened : Opened) × P opened × OpensWith gid want opened old new

  -- the pieces and blocks that the files of the want give, or those that match where they are compared
  abbrev pub OpensJustIn : StoredView D → Gid → Want → DiskState → Opened → Type 0
  OpensJustIn r gid want disk = OpensJust (is_compared want (is_checked_of r gid)) want disk.seen

  -- .. and nothing was there for which it is refused
  pub record FindsJust (r : StoredView D) (gid : Gid) (want : Want) (disk : DiskState) (opened : Opened) : Type 0 where
    pub allowed : open_refusal want disk.seen ≡ None
    pub just : OpensJustIn r gid want disk opened

  -- a fault of the disk ended the download
  abbrev pub HasFailed : StoredView D → Gid → Type 0
  HasFailed r gid = (count : ℕ) × Contains r.machine.past (Ended gid (end.Disk count))

-- ---- what a crash leaves of it

module _ {D : Type 0} where
  -- The download is opened with just what its files gave, and from the image an opening gives just what a save lists, or
  -- what one would.
  pub record IsLeftOpened (gid : Gid) (want : Want) (old new : StoredView D) (before : DiskState) (image : Files) : Type 0
    where
      pub opened : Opened
      pub just : OpensJustIn old gid want before opened
      pub stored : IsLeftStored want (own_opened old gid opened) (own_in new gid) image

  -- .. or it is opened, and its payload stands whole
  abbrev pub IsLeftEnded : Gid → Want → (old new : StoredView D) → (before after : DiskState) → Files → Type 0
  IsLeftEnded gid want old new before after image =
      IsLeftOpened gid want old new before image
      ⊎ ((is_opened (own_in new gid) ≡ true) × IsLeftWhole want (IsDoneOf new gid) (own_in new gid) before after image)

  -- the files of an image from before, or a control file that gives what was found, or what is left of the download
  abbrev pub IsLeftTried : Gid → Want → (old new : StoredView D) → (before after : DiskState) → Files → Type 0
  IsLeftTried gid want old new before after image =
      ComesOfBefore want before image
      ⊎ GivesSeen (is_compared want (is_checked_of old gid)) want before.seen image
      ⊎ IsLeftEnded gid want old new before after image

  -- The download is opened, with just what its files gave, and is left as its saves say. Each of its files has its length,
  -- and the bytes that it had. No other that goes on shares a name with it.
  pub record OpensAs (gid : Gid) (want : Want) (old new : StoredView D) (before after : DiskState) : Type 0 where
    pub opened : Opened
    pub just : OpensJustIn old gid want before opened
    pub later : List OwnEvent
    pub own : own_in new gid ≡ later ++ own_opened old gid opened
    pub kept : kept_want_of new gid ≡ Some want
    pub left : IsLeft new gid want after
    pub fits : FitsPayload want before.seen after.seen
    pub apart : SharesNoName old.machine gid

  -- The store was asked to open the download. No image gives less than one gave before, and whole files stay so, with the
  -- payload that they had, but for what is left of the download itself, where it is opened; what was sound is so still.
  -- What stood in a file stands still, up to the lengths that it had and has. Where the disk reads no control file of
  -- what is opened, each verified piece has its digest.
  pub record TriesWant (gid : Gid) (want : Want) (old new : StoredView D) (before after : DiskState) : Type 0 where
    pub refusable : open_refusal want before.seen ≡ None
    pub images : HasFiles want.dir want.layout before.seen → (image : Files) → LeftSince after before.moment image
        → IsLeftTried gid want old new before after image
    pub gives : HasControl want before.seen → is_compared want (is_checked_of old gid) ≡ false
        → (image : Files) → LeftSince after before.moment image
        → GivesAtLeast want before.may_leave image ⊎ IsLeftEnded gid want old new before after image
    pub pieces : HasControl want before.seen → AreSound want before.seen before.may_leave
        → (image : Files) → LeftSince after before.moment image
        → GivesPieces want before.may_leave image ⊎ IsLeftEnded gid want old new before after image
    pub sound : AreSound want before.seen before.may_leave
        → (image : Files) → LeftSince after before.moment image → Sound want image
    pub agrees : AreSound want before.seen before.may_leave
        → (image : Files) → after.may_leave image → Agrees want after.seen image
    pub files : HasFiles want.dir want.layout before.seen → HasFiles want.dir want.layout after.seen
    pub payload : HasFiles want.dir want.layout before.seen → SamePayload want before after
    pub stretches : StretchesPayload want before.seen after.seen
    pub opened : is_opened (own_in new gid) ≡ true → OpensAs gid want old new before after
    pub right : is_opened (own_in new gid) ≡ true → LacksControl want after.seen
        → AreSound want before.seen before.may_leave → IsListedWant want → (p : ℕ)
        → is_verified_in (own_in new gid) p ≡ true → HasDigest want (files_in want after.seen) p

  -- the files of the download may have been changed: it is opened, or the disk failed at it, or memory ran out
  abbrev pub IsTouched : StoredView D → Gid → Said → Type 0
  IsTouched r gid said = (is_opened (own_in r gid) ≡ true) ⊎ HasFailed r gid ⊎ (said ≡ NoMemory)

  -- no file changed, and the download isn't opened
  abbrev pub StaysUnopened : Gid → StoredView D → (before after : DiskState) → Type 0
  StaysUnopened gid new before after =
      ((other : Want) → KeepsFor other before after) × (is_opened (own_in new gid) ≡ false)

  -- The store was asked to open the download, and its files may have been changed; none of a want that shares no name with
  -- it were.
  pub record AsksStore (gid : Gid) (old new : StoredView D) (said : Said) (before after : DiskState) : Type 0 where
    pub want : Want
    pub sound : IsWant want
    pub has : HasWant old.machine.start old.machine.past gid want
    pub touched : IsTouched new gid said
    pub besides : KeepsBesides want before after
    pub tries : TriesWant gid want old new before after

  -- No file changed, or the store was asked. Each download that went on goes on, and is stored, and its payload reads as it
  -- did.
  pub record OpensDisk (gid : Gid) (old new : StoredView D) (said : Said) (before after : DiskState) : Type 0 where
    pub time : Passes AnyChange before after
    pub each : (g : Gid) (want : Want) → IsGoing old g → kept_want_of old g ≡ Some want
        → EndsStored want (IsDoneOf new g) (own_in old g) (own_in new g) before after
    pub left : (g : Gid) (want : Want) → IsGoing old g → kept_want_of old g ≡ Some want → IsLeft new g want after
    pub payloads : KeepsPayloads old before after
    pub came : StaysUnopened gid new before after ⊎ AsksStore gid old new said before after

-- ---- the operation

-- a download is opened next, or no event comes for want of memory
abbrev pub OpenNextRow : Gid → TurnStart → RunStanding → List Event → Said → Type 0
OpenNextRow gid at s events said =
    AnswersOnly NoMemory events said
    ⊎ ((download : Download) × (download_in at.start s.past gid ≡ Some download) × OpenRow at s download events said)

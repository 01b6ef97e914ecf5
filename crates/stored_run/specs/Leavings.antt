-- What the disk has of each want after an operation, whenever a crash comes.
use Rattle.std.specs.Prelude.{◌≡◌, ◌⊎◌, ℕ, false, true, Contains, List, Some}
use Rattle.control_file.specs.Wants.{IsListedWant}
use Rattle.control_file.specs.declared.want.Want.{Want}
use Rattle.dl_disk.specs.Files.{Files}
use Rattle.dl_disk.specs.Passes.{Passes}
use Rattle.dl_disk.specs.State.{DiskState}
use Rattle.dl_history.specs.Listings.{listing_in}
use Rattle.dl_history.specs.OwnEvents.{OwnEvent}
use Rattle.dl_history.specs.PayloadParts.{is_verified_in}
use Rattle.dl_kinds.specs.declared.gid.Gid.{Gid}
use Rattle.durable_progress.specs.Held.{IsHeldByEither}
use Rattle.machine_core.specs.OwnParts.{own_of}
use Rattle.machine_core.specs.Starts.{RunStart}
use Rattle.machine_core.specs.declared.ends.End.TheVariants as end
use Rattle.machine_core.specs.declared.events.Event.{Event}
use Rattle.machine_core.specs.declared.events.Event.TheVariants.{Ended}
use Rattle.payload_files.specs.Payload.{HasFiles}
use Rattle.resume_core.specs.Sharing.{share_names}
use Rattle.resume_core.specs.States.{KeepsFor}
use Rattle.resume_core.specs.Steps.{AreFinished, IsFinished}
use Rattle.stored_run.specs.Steps.{EndsStored}
use Rattle.stored_run.specs.Stored.{IsPieceFounded, saved_listing}
use Rattle.stored_run.specs.Views.{IsDoneIn, IsDoneOf, IsGoing, kept_want_of, own_in}
use Rattle.stored_run.specs.declared.run.StoredView.{StoredView}

-- ---- what is left of one download

-- the image has the control file of the last save of a history, or of one that would come behind it
abbrev pub IsHeldBySave : Want → List OwnEvent → Files → Files → Type 0
IsHeldBySave want own seen image =
    IsHeldByEither want (saved_listing want own) (listing_in want.plan.total want.plan.piece_len own) seen image

-- so it is of each image, and a verified piece is founded
pub record IsLeftHeld (want : Want) (own : List OwnEvent) (disk : DiskState) : Type 0 where
  pub images : (image : Files) → disk.may_leave image → IsHeldBySave want own disk.seen image
  pub right : IsListedWant want → (p : ℕ) → is_verified_in own p ≡ true → IsPieceFounded want own disk.seen p
  pub files : HasFiles want.dir want.layout disk.seen

-- The same, or the payload stands whole without its control file; and once the download completed it does in every image.
pub record IsLeftIn (start : RunStart) (past : List Event) (gid : Gid) (want : Want) (disk : DiskState) : Type 0 where
  pub images : (image : Files) → disk.may_leave image
      → IsHeldBySave want (own_of start past gid) disk.seen image
      ⊎ (IsDoneIn start past gid × IsFinished want disk.seen image)
  pub right : IsListedWant want → (p : ℕ) → is_verified_in (own_of start past gid) p ≡ true
      → IsPieceFounded want (own_of start past gid) disk.seen p
  pub files : HasFiles want.dir want.layout disk.seen
  pub complete : Contains past (Ended gid end.Complete) → AreFinished want disk.seen disk.may_leave

-- ---- a whole operation

-- whatever the files were, and are
abbrev pub AnyChange : Files → Files → Type 0
AnyChange old new = Unit {0}

module _ {D : Type 0} where
  abbrev pub IsLeft : StoredView D → Gid → Want → DiskState → Type 0
  IsLeft r gid want disk = IsLeftIn r.machine.start r.machine.past gid want disk

  -- where it is opened
  abbrev pub IsLeftOf : StoredView D → Gid → DiskState → Type 0
  IsLeftOf r gid disk = (want : Want) → kept_want_of r gid ≡ Some want → IsLeft r gid want disk

  abbrev pub IsLeftHeldOf : StoredView D → Gid → DiskState → Type 0
  IsLeftHeldOf r gid disk = (want : Want) → kept_want_of r gid ≡ Some want → IsLeftHeld want (own_in r gid) disk

  -- no download that is opened and goes on shares a name with it
  abbrev pub IsApartFromGoing : StoredView D → Want → Type 0
  IsApartFromGoing r other =
      (gid : Gid) (want : Want) → IsGoing r gid → kept_want_of r gid ≡ Some want → share_names want other ≡ false

  -- The files of wants that share no name with a download that went on are the same. Each one that went on was kept, or
  -- ended whole, and is left as its saves say.
  pub record LeavesDisk (old new : StoredView D) (before after : DiskState) : Type 0 where
    pub time : Passes AnyChange before after
    pub others : (other : Want) → IsApartFromGoing old other → KeepsFor other before after
    pub each : (gid : Gid) (want : Want) → IsGoing old gid → kept_want_of old gid ≡ Some want
        → EndsStored want (IsDoneOf new gid) (own_in old gid) (own_in new gid) before after
    pub left : (gid : Gid) (want : Want) → IsGoing old gid → kept_want_of old gid ≡ Some want
        → IsLeft new gid want after

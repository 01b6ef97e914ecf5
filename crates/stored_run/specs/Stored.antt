-- What a run keeps on its disk.
use Rattle.std.specs.Prelude.{◌≡◌, ◌⊎◌, ◌≤◌, ℕ, Bool, true, IsTrue, Option, Some, List, All, length, slice_get}
use Rattle.std.specs.List.{filter_map}
use Rattle.std.specs.Option.{is_some}
use Rattle.control_file.specs.Wants.{IsListedWant, IsWant}
use Rattle.control_file.specs.declared.want.Want.{Want}
use Rattle.dl_disk.specs.Files.{Files}
use Rattle.dl_disk.specs.State.{DiskState}
use Rattle.dl_history.specs.Listings.{Listing, last_listing}
use Rattle.dl_history.specs.OwnEvents.{OwnEvent}
use Rattle.dl_history.specs.PayloadParts.{is_opened, is_verified_in}
use Rattle.dl_kinds.specs.declared.gid.Gid.{Gid}
use Rattle.dl_kinds.specs.declared.runs.Moment.{Moment}
use Rattle.durable_progress.specs.HeldSteps.{IsHeldNow}
use Rattle.machine_core.specs.DownloadWants.{HasWant}
use Rattle.machine_core.specs.OwnParts.{own_of}
use Rattle.machine_core.specs.Replays.{replay_of}
use Rattle.machine_core.specs.RunLegal.{IsLaterThan, IsLegal, disk_fault_of}
use Rattle.machine_core.specs.Starts.{RunStart}
use Rattle.machine_core.specs.declared.events.Event.{Event}
use Rattle.resume_core.specs.Resume.{HasDigest}
use Rattle.resume_core.specs.Sharing.{share_names}
use Rattle.resume_core.specs.Wants.{files_in}
use Rattle.stored_run.specs.Views.{GoesOpened, kept_want}
use Rattle.stored_run.specs.declared.run.StoredView.{StoredView}

-- ---- one download

-- what its last save lists, or its opening where there is none
abbrev pub saved_listing : Want → List OwnEvent → Listing
saved_listing want own = last_listing want.plan.total want.plan.piece_len own

-- a piece is listed there, or has its digest as the disk reads it
abbrev pub IsPieceFounded : Want → List OwnEvent → Files → ℕ → Type 0
IsPieceFounded want own seen p =
    (slice_get (saved_listing want own).pieces p ≡ Some true) ⊎ HasDigest want (files_in want seen) p

-- every image has the control file of the last save, beside whole files; a verified piece that it doesn't list has its
-- digest
pub record IsStored (want : Want) (own : List OwnEvent) (disk : DiskState) : Type 0 where
  pub held : IsHeldNow want (saved_listing want own) disk
  pub right : IsListedWant want → (p : ℕ) → is_verified_in own p ≡ true → IsPieceFounded want own disk.seen p

-- ---- wants

-- a want for each download that is opened, and for no other
pub record AreWantsKept (start : RunStart) (past : List Event) (wants : List (Option Want)) : Type 0 where
  pub few : length wants ≤ length (replay_of start past).downloads
  pub has : (gid : Gid) (want : Want) → kept_want wants start past gid ≡ Some want → HasWant start past gid want
  pub sound : (gid : Gid) (want : Want) → kept_want wants start past gid ≡ Some want → IsWant want
  pub opened : (gid : Gid) → is_opened (own_of start past gid) ≡ true → is_some (kept_want wants start past gid) ≡ true
  pub only : (gid : Gid) (want : Want) → kept_want wants start past gid ≡ Some want
      → is_opened (own_of start past gid) ≡ true

-- of the downloads that go on no two share a name
abbrev pub NoneShareNames : RunStart → List Event → List (Option Want) → Type 0
NoneShareNames start past wants =
    (one other : Gid) (v w : Want) → GoesOpened start past one → GoesOpened start past other
    → kept_want wants start past one ≡ Some v → kept_want wants start past other ≡ Some w
    → share_names v w ≡ true → one ≡ other

-- ---- all of it

-- no count of a fault that ended a download is above this one
abbrev pub AreFaultsWithin : ℕ → List Event → Type 0
AreFaultsWithin faults past = All (λ count. count ≤ faults) (filter_map disk_fault_of past)

-- each download that is opened and goes on is stored
abbrev pub AreStored : RunStart → List Event → List (Option Want) → DiskState → Type 0
AreStored start past wants disk =
    (gid : Gid) (want : Want) → GoesOpened start past gid → kept_want wants start past gid ≡ Some want
    → IsStored want (own_of start past gid) disk

pub record IsStoredWith (tells : Bool) (faults : ℕ) (disk : DiskState) (start : RunStart) (past : List Event)
    (wants : List (Option Want)) (now : Moment) : Type 0 where
  pub legal : IsLegal start past
  pub later : IsLaterThan past now
  pub wants_are : AreWantsKept start past wants
  pub counted : AreFaultsWithin faults past
  pub apart : NoneShareNames start past wants
  pub stored : IsTrue tells → AreStored start past wants disk

abbrev pub IsStoredRun : {D : Type 0} → Bool → ℕ → DiskState → StoredView D → Type 0
IsStoredRun tells faults disk r =
    IsStoredWith tells faults disk r.machine.start r.machine.past r.wants.items r.now

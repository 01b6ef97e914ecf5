-- Saves of several downloads, one after another, and which these are.
use Rattle.std.specs.Prelude.{◌≡◌, ◌≢◌, ◌⊎◌, ◌&&◌, ◌||◌, ℕ, Bool, true, false, not, Option, Some, List, map, slice_get}
use Rattle.std.specs.Option.{option_and_then, option_map_or}
use Rattle.control_file.specs.declared.want.Want.{Want}
use Rattle.dl_disk.specs.Passes.{Passes}
use Rattle.dl_disk.specs.State.{DiskState}
use Rattle.dl_history.specs.OwnLegal.{MaySave}
use Rattle.dl_history.specs.PayloadParts.{is_opened}
use Rattle.dl_kinds.specs.declared.gid.Gid.{Gid}
use Rattle.dl_kinds.specs.declared.status.Status.{Status}
use Rattle.dl_kinds.specs.declared.status.Status.TheVariants.{Active}
use Rattle.dl_queue.specs.Calls.{is_unfinished}
use Rattle.dl_queue.specs.Places.{status_of}
use Rattle.engine_turns.specs.CallRows.{gids_in}
use Rattle.engine_turns.specs.Standings.{AnswersOnly}
use Rattle.engine_turns.specs.Told.{history_after}
use Rattle.engine_turns.specs.declared.operations.Said.{Said}
use Rattle.engine_turns.specs.declared.operations.Said.TheVariants.{NoMemory}
use Rattle.machine_core.specs.MachineViews.{place_in}
use Rattle.machine_core.specs.OwnParts.{own_of}
use Rattle.machine_core.specs.Reads.{IsSavedIn}
use Rattle.machine_core.specs.Replays.{queue_in}
use Rattle.machine_core.specs.RunLegal.{goes_on_in}
use Rattle.machine_core.specs.Starts.{RunStart}
use Rattle.machine_core.specs.declared.events.Event.{Event}
use Rattle.resume_core.specs.Sharing.{share_names}
use Rattle.resume_core.specs.States.{KeepsFor}
use Rattle.stored_run.specs.Leavings.{AnyChange, IsLeftHeld}
use Rattle.stored_run.specs.Steps.{IsStoredApart, KeepsStored}
use Rattle.stored_run.specs.Stored.{IsStored}
use Rattle.stored_run.specs.Views.{kept_want_of, own_in}
use Rattle.stored_run.specs.declared.run.StoredView.{StoredView}

-- ---- statuses

abbrev pub is_active_status : Option Status → Bool
is_active_status (Some Active) = true
is_active_status other = false

abbrev pub is_going_status : Option Status → Bool
is_going_status status = option_map_or is_unfinished status false

-- from one status to the other a download is taken off: it was active and isn't, or it went on and doesn't
abbrev pub is_off_by : (was now : Option Status) → Bool
is_off_by was now =
    is_active_status was && not (is_active_status now) || is_going_status was && not (is_going_status now)

abbrev pub status_in : RunStart → List Event → Gid → Option Status
status_in start past gid = status_of (queue_in start past) gid

-- those of all downloads, in the order of adding
abbrev pub statuses_in : RunStart → List Event → List (Option Status)
statuses_in start past = map (status_in start past) (gids_in start past)

-- the one at a place, if any
abbrev pub noted_status : List (Option Status) → ℕ → Option Status
noted_status statuses place = option_and_then (λ status. status) (slice_get statuses place)

-- ---- downloads that are due to be saved

-- it is opened, and a save would list what the last one doesn't, or not what it does
pub record HasUnsavedIn (start : RunStart) (past : List Event) (gid : Gid) : Type 0 where
  pub opened : is_opened (own_of start past gid) ≡ true
  pub unsaved : ¬ IsSavedIn start past gid

-- it is taken off since these were the statuses, with something to save
pub record IsDueOffIn (was : List (Option Status)) (start : RunStart) (past : List Event) (gid : Gid) : Type 0 where
  pub off : is_off_by (noted_status was (place_in start past gid)) (status_in start past gid) ≡ true
  pub has : HasUnsavedIn start past gid

-- it goes on, with something to save
pub record IsDueLastIn (start : RunStart) (past : List Event) (gid : Gid) : Type 0 where
  pub goes : goes_on_in start past gid ≡ true
  pub has : HasUnsavedIn start past gid

-- ---- rows

-- no event for want of memory, or what the row says
abbrev pub UnlessStarved : (List Event → Said → Type 0) → List Event → Said → Type 0
UnlessStarved Row events said = AnswersOnly NoMemory events said ⊎ Row events said

-- ---- several downloads

-- none stands there twice
abbrev pub StandOnce : List Gid → Type 0
StandOnce gids = (i j : ℕ) (gid : Gid) → slice_get gids i ≡ Some gid → slice_get gids j ≡ Some gid → i ≡ j

module _ {D : Type 0} where
  -- just these events came, and nothing else changed but room
  pub record TellsOnly (events : List Event) (old new : StoredView D) : Type 0 where
    pub past : new.machine.past ≡ history_after old.machine.past events
    pub start : new.machine.start ≡ old.machine.start
    pub now : new.now ≡ old.now
    pub wants : new.wants ≡ old.wants
    pub disk : new.disk ≡ old.disk

  abbrev pub HasOpenedUnsaved : StoredView D → Gid → Type 0
  HasOpenedUnsaved r gid = HasUnsavedIn r.machine.start r.machine.past gid

  abbrev pub IsDueOff : List (Option Status) → StoredView D → Gid → Type 0
  IsDueOff was r gid = IsDueOffIn was r.machine.start r.machine.past gid

  abbrev pub IsDueLast : StoredView D → Gid → Type 0
  IsDueLast r gid = IsDueLastIn r.machine.start r.machine.past gid

  abbrev pub gids_of : StoredView D → List Gid
  gids_of r = gids_in r.machine.start r.machine.past

  -- each may be saved, and none stands there twice
  pub record AreSavable (r : StoredView D) (gids : List Gid) : Type 0 where
    pub each : (i : ℕ) (gid : Gid) → slice_get gids i ≡ Some gid → MaySave (own_in r gid)
    pub once : StandOnce gids

  -- no other of these shares a name with the download
  abbrev pub IsApartFrom : List Gid → StoredView D → Gid → Type 0
  IsApartFrom gids r gid =
      (i : ℕ) (other : Gid) (v w : Want) → slice_get gids i ≡ Some other → other ≢ gid
      → kept_want_of r other ≡ Some v → kept_want_of r gid ≡ Some w → share_names v w ≡ false

  -- each is stored, and shares no name with another of them, or with another that goes on
  pub record AreStoredApart (r : StoredView D) (gids : List Gid) (disk : DiskState) : Type 0 where
    pub each : (i : ℕ) (gid : Gid) → slice_get gids i ≡ Some gid → IsStoredApart r gid disk
    pub apart : (i : ℕ) (gid : Gid) → slice_get gids i ≡ Some gid → IsApartFrom gids r gid

  -- what the saves of these leave of a download that is stored and shares no name with another of them
  abbrev pub SavesKeep : List Gid → (old new : StoredView D) → (before after : DiskState) → Type 0
  SavesKeep gids old new before after =
      (gid : Gid) (want : Want) → kept_want_of old gid ≡ Some want → IsStored want (own_in old gid) before
      → IsApartFrom gids old gid → KeepsStored want (own_in old gid) (own_in new gid) before after

  -- .. and what is left of it after them
  abbrev pub SavesLeave : List Gid → (old new : StoredView D) → (before after : DiskState) → Type 0
  SavesLeave gids old new before after =
      (gid : Gid) (want : Want) → kept_want_of old gid ≡ Some want → IsStored want (own_in old gid) before
      → IsApartFrom gids old gid → IsLeftHeld want (own_in new gid) after

  -- none of these shares a name with the want
  abbrev pub AreBeside : List Gid → StoredView D → Want → Type 0
  AreBeside gids r other =
      (i : ℕ) (gid : Gid) (want : Want) → slice_get gids i ≡ Some gid → kept_want_of r gid ≡ Some want
      → share_names want other ≡ false

  -- what the saves of these did on the disk
  pub record SavesDisk (gids : List Gid) (old new : StoredView D) (before after : DiskState) : Type 0 where
    pub time : Passes AnyChange before after
    pub others : (other : Want) → AreBeside gids old other → KeepsFor other before after
    pub keeps : SavesKeep gids old new before after
    pub left : SavesLeave gids old new before after

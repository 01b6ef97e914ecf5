-- Room for the events and the marks of a turn.
use Rattle.std.specs.Prelude.{◌≡◌, ◌≤◌, ℕ, true, Some, List, length, slice_get}
use Rattle.std.specs.List.{list_any}
use Rattle.dl_kinds.specs.declared.gid.Gid.{Gid}
use Rattle.dl_queue.specs.Calls.{adding_place}
use Rattle.dl_queue.specs.Lists.{QueueLists}
use Rattle.dl_queue.specs.declared.kinds.Added.{Added}
use Rattle.one_download.specs.DownloadViews.{DownloadView, IsRoomier}
use Rattle.machine_core.specs.MachineViews.{MachineView, mark_spare_in}
use Rattle.machine_core.specs.Replays.{is_active_in, is_same_gid}
use Rattle.machine_core.specs.declared.entries.Entry.{Entry}
use Rattle.machine_core.specs.declared.journal.TheConstants.{TURN_EVENTS}

-- ---- what contracts see

-- only the rooms differ, and they are no less
pub record IsRoomierRun (old new : MachineView) : Type 0 where
  pub start_is : new.start ≡ old.start
  pub past_is : new.past ≡ old.past
  pub spare : old.spare ≤ new.spare
  pub mark_spare : (gid : Gid) → mark_spare_in old gid ≤ mark_spare_in new gid

-- room for the marks of a turn of each active download
abbrev pub HasTurnMarkRoom : MachineView → Type 0
HasTurnMarkRoom m = (gid : Gid) → is_active_in m.start m.past gid ≡ true → TURN_EVENTS ≤ mark_spare_in m gid

-- ---- what is kept

-- only the rooms of a download differ, and they are no less
pub record IsRoomierEntry (old new : Entry) : Type 0 where
  pub state : DownloadView
  pub is : new ≡ record old { state = state }
  pub rest : IsRoomier old.state state

pub record AreRoomier (old new : List Entry) : Type 0 where
  pub many : length new ≡ length old
  pub each : (i : ℕ) (was is : Entry) → slice_get old i ≡ Some was → slice_get new i ≡ Some is → IsRoomierEntry was is

-- this holds of the entry at the place of the download of this gid
pub record HasEntry (Is : Entry → Type 0) (added : List Added) (entries : List Entry) (gid : Gid) : Type 0 where
  pub place : ℕ
  pub at : adding_place added gid ≡ Some place
  pub entry : Entry
  pub there : slice_get entries place ≡ Some entry
  pub is : Is entry

-- .. of each active one
abbrev pub EachActiveHas : (Entry → Type 0) → QueueLists → List Entry → Type 0
EachActiveHas Is queue entries =
    (gid : Gid) → list_any (is_same_gid gid) queue.active ≡ true → HasEntry Is queue.added entries gid

-- room for the marks of a turn
abbrev pub HasMarksForTurn : Entry → Type 0
HasMarksForTurn x = TURN_EVENTS ≤ x.state.mark_spare

-- room for a claim
abbrev pub HasClaimRoom : Entry → Type 0
HasClaimRoom x = 1 ≤ x.state.spare

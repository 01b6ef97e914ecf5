-- Which downloads a store was asked to open by the turns of a run, and of which wants. The newest turn is the first.
use Rattle.std.specs.Prelude.{◌≡◌, ◌≢◌, ◌⊎◌, ℕ, Bool, true, false, Contains, List, [], ◌∷◌, Some}
use Rattle.std.specs.List.{list_any}
use Rattle.control_file.specs.declared.want.Want.{Want}
use Rattle.dl_history.specs.PayloadParts.{is_opened}
use Rattle.dl_kinds.specs.declared.gid.Gid.{Gid}
use Rattle.engine_turns.specs.Told.{RunTurn, history_of}
use Rattle.engine_turns.specs.declared.operations.Operation.{Operation}
use Rattle.engine_turns.specs.declared.operations.Operation.TheVariants as operation
use Rattle.engine_turns.specs.declared.operations.Said.TheVariants.{NoMemory}
use Rattle.machine_core.specs.Claiming.{next_to_open}
use Rattle.machine_core.specs.DownloadWants.{HasWant}
use Rattle.machine_core.specs.OwnParts.{own_of}
use Rattle.machine_core.specs.Replays.{is_same_gid}
use Rattle.machine_core.specs.RunLegal.{goes_on_in}
use Rattle.machine_core.specs.Starts.{RunStart}
use Rattle.machine_core.specs.declared.ends.End.TheVariants as end
use Rattle.machine_core.specs.declared.events.Event.{Event}
use Rattle.machine_core.specs.declared.events.Event.TheVariants.{Ended}
use Rattle.resume_core.specs.Sharing.{share_names}
use Rattle.stored_run.specs.Views.{IsDoneIn}

-- ---- openings

abbrev pub IsNext : Operation → Type 0
IsNext (operation.Next worker now) = Unit {0}
IsNext op = ⊥

abbrev pub is_opened_in : RunStart → List Event → Gid → Bool
is_opened_in start past gid = is_opened (own_of start past gid)

-- a fault of the disk ended the download
abbrev pub HasFailedIn : List Event → Gid → Type 0
HasFailedIn past gid = (count : ℕ) × Contains past (Ended gid (end.Disk count))

-- A worker's turn had the store open the download: it was next to be opened, and then it is opened, or the disk failed, or
-- memory ran out.
pub record Asks (start : RunStart) (before : List RunTurn) (t : RunTurn) (gid : Gid) : Type 0 where
  pub asked : IsNext t.op
  pub next : next_to_open start (history_of before) ≡ Some gid
  pub came : (is_opened_in start (history_of (t ∷ before)) gid ≡ true) ⊎ HasFailedIn (history_of (t ∷ before)) gid
      ⊎ (t.answer.said ≡ NoMemory)

-- one of the turns did
abbrev pub IsAsked : RunStart → List RunTurn → Gid → Type 0
IsAsked start [] gid = ⊥
IsAsked start (t ∷ before) gid = Asks start before t gid ⊎ IsAsked start before gid

-- one did so for the second download once the first was opened
abbrev pub IsAskedLater : RunStart → List RunTurn → (first second : Gid) → Type 0
IsAskedLater start [] first second = ⊥
IsAskedLater start (t ∷ before) first second =
    ((is_opened_in start (history_of before) first ≡ true) × Asks start before t second)
    ⊎ IsAskedLater start before first second

-- ---- wants

-- the download is opened, and this is its want
pub record IsOpenedWant (start : RunStart) (told : List RunTurn) (gid : Gid) (want : Want) : Type 0 where
  pub opened : is_opened_in start (history_of told) gid ≡ true
  pub has : HasWant start (history_of told) gid want

-- of the downloads that are opened, the store was asked
abbrev pub AreAsked : RunStart → List RunTurn → Type 0
AreAsked start told = (gid : Gid) → is_opened_in start (history_of told) gid ≡ true → IsAsked start told gid

-- where two are of the same want, and one goes on, that is the later one
abbrev pub AreInOrder : RunStart → List RunTurn → Type 0
AreInOrder start told =
    (want : Want) (first second : Gid) → IsOpenedWant start told first want → IsOpenedWant start told second want
    → first ≢ second → goes_on_in start (history_of told) second ≡ true → IsAskedLater start told first second

-- No other want has a name of this one: each download whose store was asked shares none with it, or has just this want.
abbrev pub IsWrittenAlone : RunStart → List RunTurn → Want → Type 0
IsWrittenAlone start told want =
    (gid : Gid) (other : Want) → IsAsked start told gid → HasWant start (history_of told) gid other
    → share_names other want ≡ true → other ≡ want

-- the store was asked to open another download of the same want later
pub record IsReopened (start : RunStart) (told : List RunTurn) (gid : Gid) (want : Want) : Type 0 where
  pub other : Gid
  pub later : IsAskedLater start told gid other
  pub has : HasWant start (history_of told) other want

-- the wanted pieces of the download are verified, or those of one of the same want that was opened later
pub record IsDoneSince (start : RunStart) (told : List RunTurn) (gid : Gid) (want : Want) : Type 0 where
  pub other : Gid
  pub later : (other ≡ gid) ⊎ IsAskedLater start told gid other
  pub opened : IsOpenedWant start told other want
  pub done : IsDoneIn start (history_of told) other

-- it is told that the download is complete
abbrev pub is_completion : Gid → Event → Bool
is_completion gid (Ended other end.Complete) = is_same_gid gid other
is_completion gid e = false

abbrev pub is_completed_in : List Event → Gid → Bool
is_completed_in past gid = list_any (is_completion gid) past

-- What contracts see of a machine, and how its steps are told.
use Rattle.std.specs.Prelude.{◌≡◌, ◌≢◌, ℕ, ◌+◌, ◌-◌, ◌≤◌, Bool, Option, Some, None, List, ◌∷◌, All, Contains, length, slice_get, slice_index_or}
use Rattle.std.specs.List.{position_or_len}
use Rattle.std.specs.Option.{is_some}
use Rattle.dl_kinds.specs.declared.claims.Claim.{Claim}
use Rattle.dl_kinds.specs.declared.gid.Gid.{Gid}
use Rattle.dl_kinds.specs.declared.marks.Mark.{Mark}
use Rattle.dl_kinds.specs.declared.runs.Moment.{Moment}
use Rattle.dl_kinds.specs.declared.runs.Run.{Run}
use Rattle.dl_history.specs.Accounts.{Account, account_of}
use Rattle.dl_history.specs.StandingClaims.{first_open_since, standing_claims}
use Rattle.piece_table.specs.declared.giver.Giver.{Giver}
use Rattle.machine_core.specs.OwnParts.{own_of}
use Rattle.machine_core.specs.Starts.{RunStart, Download}
use Rattle.machine_core.specs.Replays.{replay_of, is_download}
use Rattle.machine_core.specs.RunLegal.{MayFollow, download_in, known_lengths}
use Rattle.machine_core.specs.declared.events.Event.{Event}
use Rattle.machine_core.specs.declared.events.Event.TheVariants.{Sized, Landed, Settled, Lost}

pub record MachineView : Type 0 where
  pub start : RunStart
  pub past : List Event  -- the history, the newest event first
  pub spare : ℕ  -- room for how many more events
  pub mark_spares : List ℕ  -- for each download, in the order of their adding: room for how many more marks

-- the place of a download in the order of their adding; the number of all, where it wasn't added
abbrev pub place_in : RunStart → List Event → Gid → ℕ
place_in start past gid = position_or_len (is_download gid) (replay_of start past).downloads

-- it keeps its place, whatever comes
abbrev pub PlacesStay : Type 0
PlacesStay =
    (start : RunStart) (past : List Event) (event : Event) (gid : Gid) (download : Download)
    → download_in start past gid ≡ Some download → place_in start (event ∷ past) gid ≡ place_in start past gid

-- none goes, and one that comes stands behind the others
abbrev pub PlacesAreBehind : Type 0
PlacesAreBehind =
    (start : RunStart) (past : List Event) (event : Event) (gid : Gid) → download_in start past gid ≡ None
    → length (replay_of start past).downloads ≤ place_in start (event ∷ past) gid

abbrev pub NoneGoes : Type 0
NoneGoes =
    (start : RunStart) (past : List Event) (event : Event)
    → length (replay_of start past).downloads ≤ length (replay_of start (event ∷ past)).downloads

-- room for how many more marks of a download
abbrev pub mark_spare_in : MachineView → Gid → ℕ
mark_spare_in m gid = slice_index_or m.mark_spares (place_in m.start m.past gid) 0

-- ---- steps

-- such an event may come next
abbrev pub IsNext : MachineView → (Event → Type 0) → Type 0
IsNext m Is = (e : Event) × Is e × MayFollow m.start m.past e

-- such an event, which may come next, came
pub record Appends (old new : MachineView) (Is : Event → Type 0) : Type 0 where
  pub event : Event
  pub is : Is event
  pub may : MayFollow old.start old.past event
  pub past_is : new.past ≡ event ∷ old.past
  pub start_is : new.start ≡ old.start

-- the event took room for one
abbrev pub UsesRoom : MachineView → MachineView → Type 0
UsesRoom old new = new.spare ≡ old.spare - 1

-- room for at most one mark of the download was used, and none of any other
pub record UsesMarkRoomOf (old new : MachineView) (gid : Gid) : Type 0 where
  pub own : mark_spare_in old gid ≤ mark_spare_in new gid + 1
  pub others : (other : Gid) → other ≢ gid → mark_spare_in new other ≡ mark_spare_in old other

-- ---- events, told by what a caller knows of them

abbrev pub IsLandingOf : ℕ → Run → Moment → Event → Type 0
IsLandingOf id run now e = (gid : Gid) × (mirror : ℕ) × (e ≡ Landed gid id mirror run now)

abbrev pub IsLossOfClaim : ℕ → Mark → Event → Type 0
IsLossOfClaim id mark e = (gid : Gid) × (mirror : ℕ) × (piece : ℕ) × (e ≡ Lost gid id mirror piece mark)

abbrev pub IsSizingBy : ℕ → ℕ → Event → Type 0
IsSizingBy id total e = (gid : Gid) × (e ≡ Sized gid id total)

abbrev pub IsFindingOf : Gid → ℕ → Bool → Event → Type 0
IsFindingOf gid piece right e = (giver : Giver) × (e ≡ Settled gid piece right giver)

-- ---- what a look-up answers

-- the download of this gid is the one at this place
pub record IsPlaceOf (m : MachineView) (gid : Gid) (place : ℕ) : Type 0 where
  pub download : Download
  pub added : slice_get (replay_of m.start m.past).downloads place ≡ Some download
  pub gid_is : download.gid ≡ gid

abbrev pub standing_in : MachineView → Gid → List Claim
standing_in m gid = standing_claims (own_of m.start m.past gid)

-- the claim stands under this number, and is the only one that does
pub record StandsUnder (m : MachineView) (id : ℕ) (gid : Gid) (claim : Claim) : Type 0 where
  pub stands : Contains (standing_in m gid) claim
  pub id_is : claim.id ≡ id
  pub one : (other : Gid) (twin : Claim) → Contains (standing_in m other) twin → twin.id ≡ id
      → (other ≡ gid) × (twin ≡ claim)

-- no claim stands under this number
abbrev pub StandsNowhere : MachineView → ℕ → Type 0
StandsNowhere m id = (gid : Gid) → All (λ claim. claim.id ≢ id) (standing_in m gid)

-- ---- claims

-- room for a mark of the download whose claim stands under the number
abbrev pub HasMarkRoomAt : MachineView → ℕ → Type 0
HasMarkRoomAt m id = (gid : Gid) (claim : Claim) → StandsUnder m id gid claim → 1 ≤ mark_spare_in m gid

-- room for at most one mark of that download was used, and none of any other
abbrev pub UsesMarkRoomAt : MachineView → MachineView → ℕ → Type 0
UsesMarkRoomAt old new id = (gid : Gid) (claim : Claim) → StandsUnder old id gid claim → UsesMarkRoomOf old new gid

-- the claim under the number stands, or none does
abbrev pub StandsSomewhere : MachineView → ℕ → Type 0
StandsSomewhere m id = (gid : Gid) × (claim : Claim) × StandsUnder m id gid claim

-- the first block of the claim under the number that is open, where such a claim stands
pub record IsFirstOpen (m : MachineView) (id : ℕ) (block : Option ℕ) : Type 0 where
  pub stands : (gid : Gid) (claim : Claim) → StandsUnder m id gid claim
      → block ≡ first_open_since (own_of m.start m.past gid) claim
  pub none : StandsNowhere m id → block ≡ None

-- ---- what is kept of a download

-- its account, by its events
abbrev pub account_of_gid : MachineView → Gid → Account
account_of_gid m gid =
    account_of (known_lengths m.start m.past gid).total (known_lengths m.start m.past gid).piece_len
    (own_of m.start m.past gid)

abbrev pub is_added_in : MachineView → Gid → Bool
is_added_in m gid = is_some (download_in m.start m.past gid)

-- Any list of steps of a machine, and what is kept of each download after it.
use Rattle.std.specs.Prelude.{◌≡◌, ◌⊎◌, ◌++◌, true, List, [], ◌∷◌, All}
use Rattle.dl_history.specs.AccountLaws.{MatchesEvents}
use Rattle.dl_history.specs.Accounts.{account_of}
use Rattle.dl_history.specs.PayloadParts.{is_opened}
use Rattle.dl_kinds.specs.Plan.{IsPlan}
use Rattle.dl_kinds.specs.declared.gid.Gid.{Gid}
use Rattle.machine_core.specs.MachineViews.{Appends, MachineView}
use Rattle.machine_core.specs.OwnParts.{own_of}
use Rattle.machine_core.specs.RunLegal.{IsLegal, known_lengths}
use Rattle.machine_core.specs.Starts.{RunStart}
use Rattle.machine_core.specs.TurnRooms.{IsRoomierRun}
use Rattle.machine_core.specs.declared.events.Event.{Event}

-- ---- steps

-- an event came that may come next, or only room was made
abbrev pub IsStep : MachineView → MachineView → Type 0
IsStep old new = Appends old new (λ e. Unit {0}) ⊎ IsRoomierRun old new

-- each machine is one step behind the one before it
abbrev pub AreSteps : MachineView → List MachineView → Type 0
AreSteps m [] = Unit {0}
AreSteps m (next ∷ others) = IsStep m next × AreSteps next others

-- the history goes on from the one before, and is legal
pub record GoesOnLegally (old new : MachineView) : Type 0 where
  pub start_is : new.start ≡ old.start
  pub events : List Event
  pub past_is : new.past ≡ events ++ old.past
  pub legal : IsLegal new.start new.past

-- whatever list of steps follows on a legal history
abbrev pub StepsStayLegal : Type 0
StepsStayLegal =
    (m : MachineView) (steps : List MachineView) → IsLegal m.start m.past → AreSteps m steps
    → All (GoesOnLegally m) steps

-- ---- downloads

-- the lengths of a download that is opened are those of a plan
abbrev pub OpenedHavePlans : Type 0
OpenedHavePlans =
    (start : RunStart) (past : List Event) (gid : Gid)
    → IsLegal start past → is_opened (own_of start past gid) ≡ true
    → IsPlan (known_lengths start past gid).total (known_lengths start past gid).piece_len

-- what is kept of a download is what its events say
abbrev pub AccountsMatchRuns : Type 0
AccountsMatchRuns =
    (start : RunStart) (past : List Event) (gid : Gid) → IsLegal start past
    → let l = known_lengths start past gid in
    MatchesEvents l.total l.piece_len (own_of start past gid) (account_of l.total l.piece_len (own_of start past gid))

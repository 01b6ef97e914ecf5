-- A worker that takes all turns of a run behind the first ones.
use Rattle.std.specs.Prelude.{◌≡◌, ◌≤◌, ℕ, false, List, [], ◌∷◌, length}
use Rattle.dl_kinds.specs.declared.gid.Gid.{Gid}
use Rattle.dl_history.specs.StandingClaims.{standing_claims}
use Rattle.engine_turns.specs.Told.{RunTurn, history_of, latest_moment}
use Rattle.engine_turns.specs.declared.operations.Operation.{Operation}
use Rattle.engine_turns.specs.declared.operations.Operation.TheVariants.{Next}
use Rattle.machine_core.specs.OwnParts.{own_of}
use Rattle.machine_core.specs.RunLegal.{IsLegal}
use Rattle.machine_core.specs.Starts.{RunStart}
use Rattle.machine_core.specs.declared.events.Event.{Event}
use Rattle.worker_turns.specs.TurnBounds.{AreBoundedBy, DeliveriesCount, EachBehind, HoldsOnce, NeverIdle, SealsAreTaken, WorksBehind}
use Rattle.conn_worker.specs.Hands.{LinkAt}
use Rattle.conn_worker.specs.declared.working.TheConstants.{MAX_TURNS}

-- no claim stands of any download
abbrev pub NoClaimStands : RunStart → List Event → Type 0
NoClaimStands start past = (gid : Gid) → standing_claims (own_of start past gid) ≡ []

-- the turns behind the earlier ones, the newest first
abbrev pub turns_behind : (turns earlier : List RunTurn) → List RunTurn
turns_behind [] earlier = earlier
turns_behind (t ∷ ts) earlier = turns_behind ts (t ∷ earlier)

-- Before the worker's turns nothing was claimed, and the history behind them is legal.
pub record StartsAlone (start : RunStart) (earlier turns : List RunTurn) : Type 0 where
  pub legal : IsLegal start (history_of (turns_behind turns earlier))
  pub none : NoClaimStands start (history_of earlier)

-- where work is asked for no claim stands
abbrev pub AsksAlone : RunStart → List RunTurn → Operation → Type 0
AsksAlone start before (Next worker now) = NoClaimStands start (history_of before)
AsksAlone start before op = Unit {0}

-- Then each delivery counts blocks, and work is asked for where no claim stands.
pub record WorksAlone (start : RunStart) (earlier turns : List RunTurn) : Type 0 where
  pub counts : DeliveriesCount turns
  pub asks : EachBehind (λ before t. AsksAlone start before t.op) earlier turns

abbrev pub LoneWorkersClaimOnce : Type 0
LoneWorkersClaimOnce =
    (start : RunStart) (earlier : List RunTurn) (worker : ℕ) (turns : List RunTurn)
    (link now : LinkAt) → WorksBehind start earlier worker turns link now
    → StartsAlone start earlier turns → WorksAlone start earlier turns

-- ---- moments

-- Before the worker's turns no moment came, and they are as many as one takes.
pub record StartsEarly (earlier turns : List RunTurn) : Type 0 where
  pub early : latest_moment earlier ≡ 0
  pub few : length turns ≤ MAX_TURNS

-- then no turn is held up behind one that was
abbrev pub LoneWorkersHoldOnce : Type 0
LoneWorkersHoldOnce =
    (start : RunStart) (earlier : List RunTurn) (worker : ℕ) (turns : List RunTurn)
    (link now : LinkAt) → WorksBehind start earlier worker turns link now
    → StartsAlone start earlier turns → StartsEarly earlier turns → HoldsOnce false turns

-- ---- the bound

-- no seal is void, and there is always something to do, or to wait for
pub record NeverInVain (turns : List RunTurn) : Type 0 where
  pub taken : SealsAreTaken turns
  pub busy : NeverIdle turns

abbrev pub LoneTurnsAreBounded : Type 0
LoneTurnsAreBounded =
    (start : RunStart) (earlier : List RunTurn) (worker : ℕ) (turns : List RunTurn)
    (link now : LinkAt) → WorksBehind start earlier worker turns link now
    → StartsAlone start earlier turns → StartsEarly earlier turns → NeverInVain turns
    → AreBoundedBy turns link now

-- Where a lone worker finds something to do, and so takes few turns.
use Rattle.std.specs.Prelude.{◌≡◌, ◌≤◌, ◌<◌, ◌+◌, ◌*◌, ℕ, Contains, List, length, Result, Ok}
use Rattle.conn_worker.specs.Hands.{LinkAt}
use Rattle.conn_worker.specs.Works.{IsWithinTurns}
use Rattle.conn_worker.specs.declared.ends.Spent.{Spent}
use Rattle.conn_worker.specs.declared.ends.WorkEnd.{WorkEnd}
use Rattle.conn_worker.specs.declared.working.TheConstants.{MAX_TURNS}
use Rattle.dl_disk.specs.State.{DiskState}
use Rattle.dl_kinds.specs.declared.gid.Gid.{Gid}
use Rattle.engine_turns.specs.Told.{RunTurn, history_of}
use Rattle.link_source.specs.Exchanges.{Exchange}
use Rattle.machine_core.specs.Replays.{queue_in}
use Rattle.machine_core.specs.Starts.{RunStart}
use Rattle.machine_core.specs.declared.events.Event.{Event}
use Rattle.request_chain.specs.Chains.{Gains, received_by}
use Rattle.turn_desk.specs.Turns.{events_of}
use Rattle.offered_work.specs.Offering.{AllMayBeFetched}
use Rattle.worker_turns.specs.Offering.{IsAtLeisure, TurnsFindOffers}
use Rattle.worker_turns.specs.Reads.{IsSoloRun}
use Rattle.worker_turns.specs.TurnBounds.{AreBoundedBy, EachBehind}

-- In a run without a console some download is active as long as something is left to do.
abbrev pub LeisureIsActive : Type 0
LeisureIsActive =
    (start : RunStart) (past : List Event) → start.doors ≡ 0 → 1 ≤ (queue_in start past).limit
    → IsAtLeisure start past → (gid : Gid) × Contains (queue_in start past).active gid

-- The queue lets a download be active, and each that was added may be fetched.
pub record IsWorkable (start : RunStart) (past : List Event) : Type 0 where
  pub room : 1 ≤ (queue_in start past).limit
  pub fetched : AllMayBeFetched start past

-- The run has no console, and that is so before each of the turns.
pub record MayBeWorked (start : RunStart) (earlier turns : List RunTurn) : Type 0 where
  pub doorless : start.doors ≡ 0
  pub each : EachBehind (λ before t. IsWorkable start (history_of before)) earlier turns

-- Too few events and bytes came for so many turns as a worker takes.
pub record HasTurnsLeft (turns : List RunTurn) (link now : LinkAt) : Type 0 where
  pub used : List Exchange
  pub gains : Gains link.state.exchanges now.state.exchanges used
  pub few : 8 * (length (events_of turns) + received_by used) + 8 < MAX_TURNS

-- a turn ended the work, not the number of turns
abbrev pub EndsByTurn : Result WorkEnd Spent → Type 0
EndsByTurn result = (by : WorkEnd) × (result ≡ Ok by)

module _ {D : Type 0} (state : D → DiskState) where
  -- then the worker of a run over one link always finds something to do
  abbrev pub SoloRunsFindOffers : Type 0
  SoloRunsFindOffers =
      (start : RunStart) (earlier : List RunTurn) (worker : ℕ) (turns later : List RunTurn)
      (link now : LinkAt) (disk : D)
      → IsSoloRun state start earlier worker turns later link now disk
      → MayBeWorked start earlier turns → TurnsFindOffers start earlier turns

  -- and so its worker takes at most so many turns
  abbrev pub SoloTurnsAreFew : Type 0
  SoloTurnsAreFew =
      (start : RunStart) (earlier : List RunTurn) (worker : ℕ) (turns later : List RunTurn)
      (link now : LinkAt) (disk : D)
      → IsSoloRun state start earlier worker turns later link now disk
      → MayBeWorked start earlier turns → AreBoundedBy turns link now

  -- so, while turns are left, its work isn't cut short by their number
  abbrev pub SoloRunsEndByTurns : Type 0
  SoloRunsEndByTurns =
      (start : RunStart) (earlier : List RunTurn) (worker : ℕ) (turns later : List RunTurn)
      (link now : LinkAt) (disk : D)
      → IsSoloRun state start earlier worker turns later link now disk
      → MayBeWorked start earlier turns → HasTurnsLeft turns link now
      → (result : Result WorkEnd Spent) → IsWithinTurns (length turns) result → EndsByTurn result

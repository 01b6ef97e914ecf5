-- Runs over links: who took the turns between the line's own call and the last stop.
use Rattle.std.specs.Prelude.{◌≡◌, ◌⊎◌, ◌<◌, ◌||◌, ◌++◌, ℕ, Bool, true, false, IsTrue, Contains, List, Some, Ok, length, reverse, slice_get}
pub use Rattle.blameless_mirrors.specs.Lone.{IsWork}
use Rattle.conn_worker.specs.Works.{IsWithinTurns}
use Rattle.conn_worker.specs.declared.ends.WorkEnd.{WorkEnd}
use Rattle.dl_disk.specs.declared.disk.Disk.{Ghosts as DiskSays}
use Rattle.dl_kinds.specs.declared.outside.Sink.{Ghosts as SinkSays}
use Rattle.dl_kinds.specs.declared.runs.Moment.{Moment}
use Rattle.engine_turns.specs.Told.{RunTurn, history_of}
use Rattle.engine_turns.specs.declared.operations.Operation.TheVariants.{Stop}
use Rattle.link_source.specs.declared.Links.{Ghosts as LinkSays}
use Rattle.machine_core.specs.RunLegal.{doors_left}
use Rattle.run_lifecycle.specs.Begins.{start_of_line}
use Rattle.run_lifecycle.specs.Finishes.{NeverBegan, Ran}
use Rattle.run_lifecycle.specs.LinkCauses.{WorkedAmong}
use Rattle.run_lifecycle.specs.Stops.{ends_short}
use Rattle.run_lifecycle.specs.declared.ended.Ended.{Ended}

module _ {D O L K : Type 0} {says : DiskSays D} {sinks : SinkSays O} (limited : Bool) (links : LinkSays L) {words : List (List ℕ)}
    {gids doors : ℕ} {disk : D} {out : O} {ended : Ended D} {out' : O}
    (ran : Ran says sinks words gids doors disk out ended out') (olds news : List (L × K)) where
  -- The worker of this number worked over the link at this place by turns between. Where memory was wanting for it, the run
  -- tells so. Where the number of turns isn't limited, a turn ended the work; where it is, it took no more of them.
  pub record WorkedOver (place : ℕ) : Type 0 where
    pub old : L × K
    pub new : L × K
    pub old_is : slice_get olds place ≡ Some old
    pub new_is : slice_get news place ≡ Some new
    pub own : WorkedAmong D links place ran.stops.middle old.0 new.0
    pub short : ends_short own.came ≡ true → (ran.begun.is_short || ran.short) ≡ true
    pub kept : limited ≡ false → (by : WorkEnd) × (own.came ≡ Ok by)
    pub few : IsTrue limited → IsWithinTurns (length own.its.worked) own.came

  -- the turn is one of a worker's own
  pub record IsOfWorker (t : RunTurn) : Type 0 where
    pub place : ℕ
    pub at : WorkedOver place
    pub there : Contains (at.own.its.worked ++ at.own.its.stop) t

  -- Each turn of work is of a worker, and so is each that stops the run before the last one, and each turn at all where the
  -- console is off. Unless memory was wanting, each link was worked over, and all doors left before the last turn. Where the
  -- number of turns is limited there are none.
  pub record IsWorkedOver : Type 0 where
    pub works : (t : RunTurn) → Contains ran.stops.middle t → IsWork t.op → IsOfWorker t
    pub stops : (t : RunTurn) → Contains ran.stops.middle t → (now : Moment) → t.op ≡ Stop now → IsOfWorker t
    pub alone : ran.begun.console.is_on ≡ false → (t : RunTurn) → Contains ran.stops.middle t → IsOfWorker t
    pub each : (ran.begun.is_short || ran.short) ≡ false → (place : ℕ) → place < length olds → WorkedOver place
    pub left : (ran.begun.is_short || ran.short) ≡ false
        → doors_left (start_of_line gids doors ran.begins.line.globals)
        (history_of (reverse (ran.begun.desk.own ++ ran.stops.middle))) ≡ 0
    pub doorless : IsTrue limited → (start_of_line gids doors ran.begins.line.globals).doors ≡ 0

module _ {D O L K : Type 0} (says : DiskSays D) (sinks : SinkSays O) (limited : Bool) (links : LinkSays L) where
  -- a run whose work was done over these links
  pub record RanOverLinks (words : List (List ℕ)) (gids doors : ℕ) (disk : D) (olds : List (L × K)) (out : O)
      (ended : Ended D) (news : List (L × K)) (out' : O) : Type 0 where
    pub ran : Ran says sinks words gids doors disk out ended out'
    pub over : IsWorkedOver limited links ran olds news

  -- it ended before it began, or ran over the links
  abbrev pub IsRunOver : List (List ℕ) → (gids doors : ℕ) → D → List (L × K) → O → Ended D → List (L × K) → O → Type 0
  IsRunOver words gids doors disk olds out ended news out' =
      NeverBegan says sinks words disk out ended out' ⊎ RanOverLinks words gids doors disk olds out ended news out'

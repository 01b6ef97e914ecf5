-- How a run ends, and all that it did.
use Rattle.std.specs.Prelude.{◌≡◌, ◌⊎◌, ◌||◌, ℕ, Bool, true, false, List, [], reverse}
use Rattle.dl_disk.specs.declared.disk.Disk.{Ghosts as DiskSays}
use Rattle.dl_kinds.specs.declared.outside.Sink.{Ghosts as SinkSays}
use Rattle.engine_core.specs.EngineViews.{EngineView}
use Rattle.engine_core.specs.Engines.{past_of, start_of}
use Rattle.machine_core.specs.RunLegal.{IsLegal}
use Rattle.run_report.specs.Writing.{IsReported, PrintsError, PrintsSummary}
use Rattle.run_report.specs.declared.endings.RunEnding.{RunEnding}
use Rattle.run_report.specs.declared.endings.RunEnding.TheVariants.{NoMemory}
use Rattle.run_lifecycle.specs.Begins.{EndsUnbegun, HasBegun, IsRead}
use Rattle.run_lifecycle.specs.Stops.{StopsRun}
use Rattle.run_lifecycle.specs.declared.beginning.Begun.{Begun}
use Rattle.run_lifecycle.specs.declared.ended.Ended.{Ended}

module _ {O : Type 0} (sinks : SinkSays O) where
  -- without memory nothing is printed
  abbrev pub PrintsRefusal : RunEnding → O → O → RunEnding → Type 0
  PrintsRefusal NoMemory out out' ending = (ending ≡ NoMemory) × (out' ≡ out)
  PrintsRefusal refusal out out' ending =
      ((ending ≡ refusal) ⊎ (ending ≡ NoMemory)) × PrintsError sinks refusal out out' ending

  -- the summary tells how the run ended
  pub record Reports {D : Type 0} (v : EngineView D) (out out' : O) (ending : RunEnding) : Type 0 where
    pub ends : IsReported sinks (start_of v.state) (past_of v.state) out out' ending
    pub prints : PrintsSummary sinks (start_of v.state) (past_of v.state) out out' ending

  abbrev pub EndsBy : {D : Type 0} → Bool → EngineView D → O → O → RunEnding → Type 0
  EndsBy {D} true v out out' ending = (ending ≡ NoMemory) × (out' ≡ out)
  EndsBy {D} false v out out' ending = Reports v out out' ending

  -- the journal is the engine's legal history, and the disk is its own
  pub record Finishes {D : Type 0} (v : EngineView D) (short : Bool) (out : O) (ended : Ended D) (out' : O) : Type 0
    where
      pub disk : ended.disk ≡ v.state.run.disk
      pub journal : ended.journal.events.items ≡ reverse (past_of v.state)
      pub legal : IsLegal (start_of v.state) (past_of v.state)
      pub ends : EndsBy short v out out' ended.ending

module _ {D O : Type 0} (says : DiskSays D) (sinks : SinkSays O) where
  -- the run ended before it began: the disk was read at most, and a refusal was told
  pub record NeverBegan (words : List (List ℕ)) (disk : D) (out : O) (ended : Ended D) (out' : O) : Type 0 where
    pub refusal : RunEnding
    pub is_read : IsRead says disk ended.disk
    pub ends : EndsUnbegun says words disk ended.disk refusal
    pub prints : PrintsRefusal sinks refusal out out' ended.ending
    pub journal : ended.journal.events.items ≡ []

  -- behind the command line's own call turns came, and the run was stopped and ended
  pub record Ran (words : List (List ℕ)) (gids doors : ℕ) (disk : D) (out : O) (ended : Ended D) (out' : O) : Type 0 where
    pub begun : Begun D
    pub begins : HasBegun says words gids doors disk begun
    pub engine : EngineView D
    pub short : Bool
    pub stops : StopsRun says begun.desk engine short
    pub finishes : Finishes sinks engine (begun.is_short || short) out ended out'

  -- a run, from the words to the summary
  abbrev pub IsWholeRun : List (List ℕ) → (gids doors : ℕ) → D → O → Ended D → O → Type 0
  IsWholeRun words gids doors disk out ended out' =
      NeverBegan words disk out ended out' ⊎ Ran words gids doors disk out ended out'

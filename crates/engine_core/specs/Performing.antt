-- What an operation does to a run, and what is answered.
use Rattle.std.specs.Prelude.{◌≡◌, ◌≤◌, ◌&&◌, ℕ, Bool, IsTrue, max, not, All, List, ◌++◌, filter}
use Rattle.dl_disk.specs.State.{DiskState}
use Rattle.machine_core.specs.declared.events.Event.{Event}
use Rattle.machine_core.specs.declared.handed.Handed.{Handed}
use Rattle.engine_turns.specs.Faults.{CountsFaults}
use Rattle.engine_turns.specs.Levels.{spent_by}
use Rattle.engine_turns.specs.RunTurns.{IsAnswered, answer_before}
use Rattle.engine_turns.specs.Told.{handed_by, history_after, is_taken, moment_of_operation, seals_handed}
use Rattle.engine_turns.specs.declared.operations.Operation.{Operation}
use Rattle.engine_turns.specs.declared.operations.Said.{Said}
use Rattle.engine_core.specs.Buckets.{LevelsGoOn}
use Rattle.engine_core.specs.Disks.{LeavesTurn}
use Rattle.engine_core.specs.Findings.{FindsRead}
use Rattle.engine_core.specs.Handing.{IsUnsettled}
use Rattle.engine_core.specs.Readings.{TakesRead}
use Rattle.engine_core.specs.Engines.{KeepsRates, past_of, standing_of, start_of}
use Rattle.engine_core.specs.declared.state.EngineState.{EngineState}

-- the pieces that are out once an operation is answered, as far as its events don't tell
abbrev pub handed_after : Operation → Said → List Handed → List Handed
handed_after op said handed = filter (λ h. not (seals_handed h op && is_taken said)) (handed_by said ++ handed)

module _ {D : Type 0} where
  -- the events and the answer of an operation, by the counts of the disk's faults before and after it
  pub record Answers (op : Operation) (old : EngineState D) (faults : ℕ) (new : EngineState D) (faults_after : ℕ)
      (said : Said) : Type 0 where
    pub start : start_of new ≡ start_of old
    pub now : new.run.now.0 ≡ max (moment_of_operation op) old.run.now.0
    pub events : List Event
    pub grown : past_of new ≡ history_after (past_of old) events
    pub answered : IsAnswered (record { start = start_of old; now = new.run.now; faults = faults }) (standing_of old)
        op events said (answer_before (start_of old) (past_of old) op)
    pub later : faults ≤ faults_after
    pub counts : CountsFaults faults events faults_after
    pub levels : LevelsGoOn (start_of old) (past_of old) (past_of new)
        (spent_by (start_of old) (past_of old) op said) new.run.now.0 old.limits new.limits

  -- where each piece that was handed out awaits its finding, so does each then, by the history before
  abbrev pub HandsUnsettled : (old new : EngineState D) → Type 0
  HandsUnsettled old new =
      All (IsUnsettled (start_of old) (past_of old)) old.handed.pieces
      → All (IsUnsettled (start_of old) (past_of old)) new.handed.pieces

  -- .. and the pieces that are out before those go that its events settle; the buckets have their rates
  pub record Performs (op : Operation) (old : EngineState D) (faults : ℕ) (new : EngineState D) (faults_after : ℕ)
      (said : Said) : Type 0 where
    pub answers : Answers op old faults new faults_after said
    pub handed : new.handed.pieces ≡ handed_after op said old.handed.pieces
    pub out : HandsUnsettled old new
    pub rates : KeepsRates new

-- What an operation does to a run and, where that is told, to its disk, and what it took from it and found there.
pub record PerformsTurn {D : Type 0} (tells : Bool) (state : D → DiskState) (faults : D → ℕ) (op : Operation)
    (old new : EngineState D) (said : Said) : Type 0 where
  pub performs : Performs op old (faults old.run.disk) new (faults new.run.disk) said
  pub disk : IsTrue tells → LeavesTurn state op old new said
  pub reads : IsTrue tells → TakesRead state op old new.run said
  pub finds : IsTrue tells → FindsRead state op old.run new.run

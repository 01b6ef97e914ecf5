-- The turns of a run that a clause of it names. The newest of them is the first.
use Rattle.std.specs.Prelude.{◌≡◌, ◌≢◌, List, reverse}
use Rattle.engine_core.specs.Askings.{IsNext}
use Rattle.engine_turns.specs.RunTurns.{MayComeAfter}
use Rattle.engine_turns.specs.Told.{AllTurns, RunTurn, history_of}
use Rattle.engine_turns.specs.declared.operations.Said.TheVariants as said
use Rattle.machine_core.specs.Starts.{RunStart}
use Rattle.run_lifecycle.specs.declared.ended.Ended.{Ended}
use Rattle.run_report.specs.declared.endings.RunEnding.TheVariants.{NoMemory}

-- no turn that asked for work was answered for want of memory
abbrev pub AreFed : List RunTurn → Type 0
AreFed told = AllTurns (λ before t. IsNext t.op → t.answer.said ≢ said.NoMemory) told

-- Each of them may come after those before it, and the journal is their history. Unless the run ended for want of memory, memory
-- sufficed for each that asked for work.
pub record AreTurnsOf {D : Type 0} (ended : Ended D) (start : RunStart) (told : List RunTurn) : Type 0 where
  pub history : reverse ended.journal.events.items ≡ history_of told
  pub ties : AllTurns (MayComeAfter start) told
  pub memory : ended.ending ≢ NoMemory → AreFed told

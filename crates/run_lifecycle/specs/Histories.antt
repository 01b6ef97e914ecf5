-- What the history of a run has.
use Rattle.std.specs.Prelude.{◌≡◌, ◌≢◌, ◌⊎◌, ◌++◌, ℕ, false, Contains, IsTrue, List, [], ◌∷◌, Option, Some, None, reverse}
use Rattle.command_line.specs.Lines.{IsLine}
use Rattle.command_line.specs.declared.line.CommandLine.{CommandLine}
use Rattle.dl_disk.specs.declared.disk.Disk.{Ghosts as DiskSays}
use Rattle.dl_kinds.specs.declared.gid.Gid.{Gid}
use Rattle.engine_turns.specs.CallRows.{IsSavedLast}
use Rattle.engine_turns.specs.RunTurns.{is_nearly_full}
use Rattle.command_call.specs.Sources.{IsCallOf, IsNamedCall}
use Rattle.machine_core.specs.RunLegal.{IsLegal, doors_left}
use Rattle.machine_core.specs.Starts.{RunStart}
use Rattle.machine_core.specs.declared.calls.Call.{Call}
use Rattle.machine_core.specs.declared.events.Event.{Event}
use Rattle.machine_core.specs.declared.events.Event.TheVariants.{Called, Stopped}
use Rattle.run_report.specs.declared.endings.RunEnding.TheVariants.{NoMemory}
use Rattle.run_lifecycle.specs.Begins.{start_of_line}
use Rattle.run_lifecycle.specs.declared.ended.Ended.{Ended}

-- the call is the first of the events, where there is one
abbrev pub StandsFirst : Option Call → List Event → Type 0
StandsFirst None events = Unit {0}
StandsFirst (Some call) events =
    (rest : List Event) × (events ≡ Called 0 call (record { 0 = 0 }) ∷ rest)

-- of no download that goes on, and is opened, would a save list what the last one doesn't, or not what it does
abbrev pub LeavesNoneUnsaved : RunStart → List Event → Type 0
LeavesNoneUnsaved start past = (gid : Gid) → ¬ IsSavedLast start past gid

-- no door stands where the stop comes: each left before it
abbrev pub StopsLast : RunStart → List Event → Type 0
StopsLast start events =
    (front rest : List Event) → events ≡ front ++ Stopped ∷ rest → doors_left start (reverse front) ≡ 0

module _ {D : Type 0} (says : DiskSays D) (words : List (List ℕ)) (gids doors : ℕ) (disk : D) (ended : Ended D) where
  -- The history that the journal holds is a legal one of a run with the options of the words. It begins with the call of the
  -- line, the run was stopped behind all doors' leaves, and all was saved, unless memory was wanting. A worker for which the
  -- journal is full stops the run before the doors leave.
  pub record IsHistoryOf : Type 0 where
    pub line : CommandLine
    pub means : IsLine words line
    pub legal : IsLegal (start_of_line gids doors line.globals) (reverse ended.journal.events.items)
    pub call : Option Call
    pub named : IsNamedCall line.source line.settings call
    pub call_is : IsTrue says.tells → IsCallOf (says.state disk).seen line.source line.settings call
    pub first : ended.ending ≢ NoMemory → StandsFirst call ended.journal.events.items
    pub stopped : Contains ended.journal.events.items Stopped
    pub stops_last : ended.ending ≢ NoMemory → is_nearly_full ended.journal.events.items ≡ false
        → StopsLast (start_of_line gids doors line.globals) ended.journal.events.items
    pub saved : ended.ending ≢ NoMemory
        → LeavesNoneUnsaved (start_of_line gids doors line.globals) (reverse ended.journal.events.items)

  abbrev pub IsHistory : Type 0
  IsHistory = (ended.journal.events.items ≡ []) ⊎ IsHistoryOf

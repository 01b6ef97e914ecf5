-- What follows from all that a run did, whoever took its turns.
use Rattle.std.specs.Prelude.{◌≡◌, ◌≢◌, ℕ, false, Contains, IsTrue, List, reverse}
use Rattle.dl_disk.specs.declared.disk.Disk.{Ghosts as DiskSays}
use Rattle.dl_kinds.specs.declared.outside.Sink.{Ghosts as SinkSays}
use Rattle.engine_turns.specs.RunTurns.{is_nearly_full}
use Rattle.machine_core.specs.declared.events.Event.TheVariants.{Stopped}
use Rattle.run_lifecycle.specs.Begins.{start_of_line}
use Rattle.run_lifecycle.specs.DiskCauses.{OthersStay, ShowsDisk}
use Rattle.run_lifecycle.specs.Endings.{EndsAsShown}
use Rattle.run_lifecycle.specs.Finishes.{IsWholeRun, Ran}
use Rattle.run_lifecycle.specs.Histories.{IsHistoryOf, StopsLast}
use Rattle.run_lifecycle.specs.Printing.{PrintsText}
use Rattle.run_lifecycle.specs.Stops.{all_turns}
use Rattle.run_lifecycle.specs.Survivals.{LeavesKept}
use Rattle.run_lifecycle.specs.TurnsOf.{AreFed}
use Rattle.run_lifecycle.specs.Untouched.{OnlyReads}
use Rattle.run_lifecycle.specs.declared.ended.Ended.{Ended}
use Rattle.run_report.specs.declared.endings.RunEnding.TheVariants.{NoMemory}

module _ {D O : Type 0} (says : DiskSays D) (sinks : SinkSays O) where
  -- the history of a run that began has its stop
  abbrev pub BegunAreStopped : Type 0
  BegunAreStopped =
      (words : List (List ℕ)) (gids doors : ℕ) (disk : D) (out : O) (ended : Ended D) (out' : O)
      → Ran says sinks words gids doors disk out ended out' → Contains ended.journal.events.items Stopped

  -- ---- of every run

  abbrev pub RunsEndAsShown : Type 0
  RunsEndAsShown =
      (words : List (List ℕ)) (gids doors : ℕ) (disk : D) (out : O) (ended : Ended D) (out' : O)
      → IsWholeRun says sinks words gids doors disk out ended out'
      → EndsAsShown says sinks words gids doors disk out ended out'

  abbrev pub RunsPrintText : Type 0
  RunsPrintText =
      (words : List (List ℕ)) (gids doors : ℕ) (disk : D) (out : O) (ended : Ended D) (out' : O)
      → IsWholeRun says sinks words gids doors disk out ended out'
      → PrintsText says sinks words gids doors disk out ended out'

  abbrev pub RunsShowDisk : Type 0
  RunsShowDisk =
      (words : List (List ℕ)) (gids doors : ℕ) (disk : D) (out : O) (ended : Ended D) (out' : O)
      → IsWholeRun says sinks words gids doors disk out ended out' → ShowsDisk says words gids doors disk ended

  abbrev pub UnbegunOnlyRead : Type 0
  UnbegunOnlyRead =
      (words : List (List ℕ)) (gids doors : ℕ) (disk : D) (out : O) (ended : Ended D) (out' : O)
      → IsWholeRun says sinks words gids doors disk out ended out' → OnlyReads says disk ended

  -- ---- of a run that began

  -- where its doors left before the stop its history is whole
  abbrev pub RunsHaveHistories : Type 0
  RunsHaveHistories =
      (words : List (List ℕ)) (gids doors : ℕ) (disk : D) (out : O) (ended : Ended D) (out' : O)
      (ran : Ran says sinks words gids doors disk out ended out')
      → (ended.ending ≢ NoMemory → is_nearly_full ended.journal.events.items ≡ false
      → StopsLast (start_of_line gids doors ran.begins.line.globals) ended.journal.events.items)
      → IsHistoryOf says words gids doors disk ended

  -- where memory sufficed for its turns, unless it ended so, it keeps its promises ..
  abbrev pub RunsSurvive : Type 0
  RunsSurvive =
      (words : List (List ℕ)) (gids doors : ℕ) (disk : D) (out : O) (ended : Ended D) (out' : O)
      (ran : Ran says sinks words gids doors disk out ended out') → IsTrue says.tells
      → (ended.ending ≢ NoMemory → AreFed (reverse (all_turns says ran.stops)))
      → LeavesKept says words gids doors disk ended

  -- .. and leaves all other files
  abbrev pub RunsLeaveOtherFiles : Type 0
  RunsLeaveOtherFiles =
      (words : List (List ℕ)) (gids doors : ℕ) (disk : D) (out : O) (ended : Ended D) (out' : O)
      (ran : Ran says sinks words gids doors disk out ended out') → IsTrue says.tells
      → (ended.ending ≢ NoMemory → AreFed (reverse (all_turns says ran.stops)))
      → OthersStay says words gids doors disk ended

-- What shows how a run ended.
use Rattle.std.specs.Prelude.{◌≡◌, ◌⊎◌, ℕ, IsTrue, List, reverse}
use Rattle.command_line.specs.Lines.{IsLine}
use Rattle.command_line.specs.declared.line.CommandLine.{CommandLine}
use Rattle.dl_disk.specs.declared.disk.Disk.{Ghosts as DiskSays}
use Rattle.dl_kinds.specs.declared.outside.Sink.{Ghosts as SinkSays}
use Rattle.dl_kinds.specs.Counts.{Rose}
use Rattle.command_call.specs.Sources.{RefusesSource}
use Rattle.command_call.specs.declared.refusals.SourceErr.{SourceErr}
use Rattle.command_call.specs.declared.refusals.SourceErr.TheVariants.{Fault, NoMemory as Starved}
use Rattle.machine_core.specs.declared.journal.Journal.{Journal}
use Rattle.run_report.specs.Failures.{ending_by_history}
use Rattle.run_report.specs.declared.endings.RunEnding.{RunEnding}
use Rattle.run_report.specs.declared.endings.RunEnding.TheVariants.{NoMeaning, NoMemory, NoMetainfo, SinkFault}
use Rattle.run_lifecycle.specs.Begins.{LacksCall, LacksLine, start_of_line}
use Rattle.run_lifecycle.specs.Ends.{ending_of_source}
use Rattle.run_lifecycle.specs.declared.ended.Ended.{Ended}

-- the words mean a line, and this is how its run ends by the history
pub record EndsByHistory (words : List (List ℕ)) (gids doors : ℕ) (journal : Journal) (ending : RunEnding) : Type 0 where
  pub line : CommandLine
  pub means : IsLine words line
  pub is : ending ≡ ending_by_history (start_of_line gids doors line.globals) (reverse journal.events.items)

-- it is what the bytes of the file show: no fault, and no want of memory
abbrev pub IsShownByFile : SourceErr → Type 0
IsShownByFile Fault = ⊥
IsShownByFile Starved = ⊥
IsShownByFile error = Unit {0}

module _ {D O : Type 0} (says : DiskSays D) (sinks : SinkSays O) (words : List (List ℕ)) (gids doors : ℕ) (disk : D) (out : O)
    (ended : Ended D) (out' : O) where
  -- what shows it; nothing shows want of memory
  abbrev pub ShowsEnding : RunEnding → Type 0
  ShowsEnding NoMeaning = LacksLine words × (ended.disk ≡ disk)
  ShowsEnding (NoMetainfo why) = LacksCall says words disk ended.disk (NoMetainfo why)
  ShowsEnding NoMemory = Unit {0}
  ShowsEnding SinkFault = Rose (sinks.faults out) (sinks.faults out')
  ShowsEnding told = EndsByHistory words gids doors ended.journal told

  -- so it ends, or memory was wanting, or the disk failed meanwhile
  abbrev pub EndsBySource : SourceErr → Type 0
  EndsBySource error =
      (ended.ending ≡ ending_of_source error) ⊎ (ended.ending ≡ NoMemory)
      ⊎ Rose (says.faults disk) (says.faults ended.disk)

  -- The ending is shown. Words without a meaning, and a named file that is refused, end the run so.
  pub record EndsAsShown : Type 0 where
    pub shown : ShowsEnding ended.ending
    pub words_first : LacksLine words → (ended.ending ≡ NoMeaning) ⊎ (ended.ending ≡ NoMemory)
    pub file_next : IsTrue says.tells → (line : CommandLine) (error : SourceErr) → IsLine words line
        → IsShownByFile error → RefusesSource (says.state disk).seen line.source error → EndsBySource error

-- What a run prints.
use Rattle.std.specs.Prelude.{◌≡◌, ◌⊎◌, ◌≤◌, ℕ, IsTrue, List, [], ◌++◌, length, reverse}
use Rattle.command_line.specs.Lines.{IsLine}
use Rattle.command_line.specs.declared.line.CommandLine.{CommandLine}
use Rattle.dl_disk.specs.declared.disk.Disk.{Ghosts as DiskSays}
use Rattle.dl_kinds.specs.declared.outside.Sink.{Ghosts as SinkSays}
use Rattle.dl_kinds.specs.Counts.{Rose}
use Rattle.machine_core.specs.Replays.{gids_in}
use Rattle.run_report.specs.Lines.{IsSummaryOf}
use Rattle.run_report.specs.Writing.{error_line}
use Rattle.run_report.specs.declared.endings.RunEnding.{RunEnding}
use Rattle.run_report.specs.declared.endings.RunEnding.TheVariants.{NoMemory}
use Rattle.run_lifecycle.specs.Begins.{EndsUnbegun, start_of_line}
use Rattle.run_lifecycle.specs.declared.ended.Ended.{Ended}

-- the line of why a run didn't begin; none where memory was wanting
abbrev pub refusal_text : RunEnding → List ℕ
refusal_text NoMemory = []
refusal_text refusal = error_line refusal

module _ {D O : Type 0} (says : DiskSays D) (sinks : SinkSays O) (words : List (List ℕ)) (gids doors : ℕ) (disk : D) (out : O)
    (ended : Ended D) (out' : O) where
  -- memory was wanting, or the output failed
  abbrev pub MayBeShort : Type 0
  MayBeShort = (ended.ending ≡ NoMemory) ⊎ Rose (sinks.faults out) (sinks.faults out')

  -- nothing happened, and this is the line of why
  pub record IsRefusalText (text : List ℕ) : Type 0 where
    pub refusal : RunEnding
    pub why : EndsUnbegun says words disk ended.disk refusal
    pub none : ended.journal.events.items ≡ []
    pub is : text ≡ refusal_text refusal

  -- the words mean a line, and this is the summary of its run; of its first downloads alone only where it may be short
  pub record IsSummaryText (text : List ℕ) : Type 0 where
    pub line : CommandLine
    pub means : IsLine words line
    pub count : ℕ
    pub is : IsSummaryOf (start_of_line gids doors line.globals) (reverse ended.journal.events.items) count text
    pub all : (length (gids_in (start_of_line gids doors line.globals) (reverse ended.journal.events.items)) ≤ count)
        ⊎ MayBeShort

  -- There is one text to print, and a front of it was printed, once; all of it, but where it may be short.
  pub record PrintsText : Type 0 where
    pub text : List ℕ
    pub is : IsRefusalText text ⊎ IsSummaryText text
    pub front : List ℕ
    pub rest : List ℕ
    pub is_front : text ≡ front ++ rest
    pub taken : IsTrue sinks.tells → sinks.taken out' ≡ sinks.taken out ++ front
    pub all : (rest ≡ []) ⊎ MayBeShort

-- Whether a run of downloads began, and why it didn't.
use Rattle.std.specs.Prelude.{◌≡◌, ◌⊎◌, ℕ, Contains, List, []}
use Rattle.command_line.specs.Lines.{IsLine}
use Rattle.command_line.specs.declared.line.CommandLine.{CommandLine}
use Rattle.command_meanings.specs.Meanings.{AskForLoad, AskToCheck, AskToServe, LackMeaning}
use Rattle.command_meanings.specs.declared.modes.CheckLine.{CheckLine}
use Rattle.command_meanings.specs.declared.modes.ServeLine.{ServeLine}
use Rattle.dl_disk.specs.declared.disk.Disk.{Ghosts as DiskSays}
use Rattle.dl_kinds.specs.declared.outside.Sink.{Ghosts as SinkSays}
use Rattle.machine_core.specs.declared.events.Event.TheVariants.{Stopped}
use Rattle.run_lifecycle.specs.Begins.{IsRead, LacksCall}
use Rattle.run_lifecycle.specs.Finishes.{PrintsRefusal}
use Rattle.run_report.specs.declared.endings.RunEnding.{RunEnding}
use Rattle.run_report.specs.declared.endings.RunEnding.TheVariants.{NoMeaning, NoMemory}
use Rattle.aria_top.specs.OneRun.{OneRun, events_of_run}

module _ {D L K A O : Type 0} (run : OneRun D L K A O) where
  -- the words mean this line of downloads, whose run went on until it was stopped
  pub record Began (line : CommandLine) : Type 0 where
    pub means : IsLine run.given.words line
    pub stopped : Contains (events_of_run run) Stopped

  -- so it is of a run that began, whatever its line
  abbrev pub OfBegun : (CommandLine → Type 0) → Type 0
  OfBegun IsSo = (line : CommandLine) → Began line → IsSo line

  -- doors and links are as they were, and nothing happened
  pub record LeftAll : Type 0 where
    pub none : events_of_run run ≡ []
    pub untold : run.came.transcripts ≡ []
    pub links : run.came.links ≡ run.given.links
    pub doors : run.came.doors ≡ run.given.doors

  module _ (says : DiskSays D) (sinks : SinkSays O) where
    -- the words have no meaning, and the disk wasn't called; or the line names no download; or memory was wanting
    abbrev pub WhyUnbegun : RunEnding → Type 0
    WhyUnbegun refusal =
        ((refusal ≡ NoMeaning) × LackMeaning run.given.words × (run.came.ended.disk ≡ run.given.disk))
        ⊎ LacksCall says run.given.words run.given.disk run.came.ended.disk refusal
        ⊎ (refusal ≡ NoMemory)

    -- It ended before it began, for this reason, which was printed. The disk was read at most.
    pub record EndedUnbegun : Type 0 where
      pub refusal : RunEnding
      pub why : WhyUnbegun refusal
      pub printed : PrintsRefusal sinks refusal run.given.out run.came.out run.came.ended.ending
      pub reads : IsRead says run.given.disk run.came.ended.disk
      pub left : LeftAll

    -- the words ask for a load, for a folder to be served, or for a payload to be checked
    abbrev pub AskForOther : List (List ℕ) → Type 0
    AskForOther words =
        ((n : ℕ) × AskForLoad words n) ⊎ ((line : ServeLine) × AskToServe words line)
        ⊎ ((line : CheckLine) × AskToCheck words line)

    -- a run of downloads began or tells why not, or the words ask for something else
    abbrev pub BeganOrNot : Type 0
    BeganOrNot = EndedUnbegun ⊎ ((line : CommandLine) × Began line) ⊎ AskForOther run.given.words

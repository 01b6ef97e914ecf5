-- What is promised of each run of downloads, clause by clause.
use Rattle.std.specs.Prelude.{◌≡◌, ◌⊎◌, ◌++◌, ℕ, true, IsTrue, List, [], length, reverse}
use Rattle.std.specs.Bool.{MatchBool}
use Rattle.command_call.specs.Sources.{RefusesSource}
use Rattle.command_call.specs.declared.refusals.SourceErr.{SourceErr}
use Rattle.command_line.specs.Lines.{IsLine}
use Rattle.command_line.specs.declared.line.CommandLine.{CommandLine}
use Rattle.command_meanings.specs.Meanings.{LackMeaning}
use Rattle.dl_clock.specs.declared.clock.Clock.{Ghosts as ClockSays}
use Rattle.dl_disk.specs.declared.disk.Disk.{Ghosts as DiskSays}
use Rattle.dl_kinds.specs.Counts.{Rose}
use Rattle.dl_kinds.specs.declared.outside.Sink.{Ghosts as SinkSays}
use Rattle.door_source.specs.declared.Doors.{Ghosts as DoorSays}
use Rattle.link_source.specs.declared.Links.{Ghosts as LinkSays}
use Rattle.machine_core.specs.declared.events.Event.{Event}
use Rattle.machine_core.specs.Starts.{RunStart}
use Rattle.run_lifecycle.specs.Begins.{start_of_line}
use Rattle.run_lifecycle.specs.DiskCauses.{DiskCauses, OthersStay}
use Rattle.run_lifecycle.specs.Endings.{EndsBySource, IsShownByFile}
use Rattle.run_lifecycle.specs.Histories.{IsHistoryOf}
use Rattle.run_lifecycle.specs.Printing.{IsSummaryText, MayBeShort}
use Rattle.run_lifecycle.specs.Survivals.{LeavesKept}
use Rattle.run_report.specs.Failures.{ending_by_history}
use Rattle.run_report.specs.declared.endings.RunEnding.{RunEnding}
use Rattle.run_report.specs.declared.endings.RunEnding.TheVariants.{NoMeaning, NoMemory, NoMetainfo, SinkFault}
use Rattle.served_runs.specs.Completes.{CompletesServed}
use Rattle.served_runs.specs.CompletesUris.{CompletesUris}
use Rattle.served_runs.specs.LinksCauses.{LinksCauses}
use Rattle.served_runs.specs.Served.{HoldsNothing}
use Rattle.served_runs.specs.Unfinished.{ShowsUnfinished}
use Rattle.shared_run.specs.DoorsCauses.{DoorsCauses}
use Rattle.shared_run.specs.LinksLeft.{LeavesLinks}
use Rattle.shared_run.specs.RunsTogether.{RunsTogether, edges}
use Rattle.solo_run.specs.Bounded.{BoundsFirst}
use Rattle.solo_run.specs.Pieces.{CompletesPieces}
use Rattle.aria_top.specs.Alone.{RanAlone, is_alone}
use Rattle.aria_top.specs.Began.{OfBegun}
use Rattle.aria_top.specs.OneRun.{OneRun, events_of_run}

module _ {D L K A O : Type 0} (run : OneRun D L K A O) where
  -- the run of each line that the words mean
  abbrev pub OfLine : (CommandLine → Type 0) → Type 0
  OfLine IsSo = (line : CommandLine) → IsLine run.given.words line → IsSo line

  -- how a run of the line starts, and its history, the newest event first
  abbrev pub start_by : CommandLine → RunStart
  start_by line = start_of_line run.given.gids (length run.given.doors) line.globals

  abbrev pub past_of_run : List Event
  past_of_run = reverse (events_of_run run)

-- ---- ending and output

module _ {D L K A O : Type 0} (says : DiskSays D) (sinks : SinkSays O) (run : OneRun D L K A O) where
  -- words without a meaning, and a named file that is refused, end the run so
  pub record RefusesFirst : Type 0 where
    pub words : LackMeaning run.given.words
        → (run.came.ended.ending ≡ NoMeaning) ⊎ (run.came.ended.ending ≡ NoMemory)
    pub file : IsTrue says.tells → (line : CommandLine) (error : SourceErr) → IsLine run.given.words line
        → IsShownByFile error → RefusesSource (says.state run.given.disk).seen line.source error
        → EndsBySource says sinks run.given.words run.given.gids (length run.given.doors) run.given.disk run.given.out
        run.came.ended run.came.out error

  -- The history says how it ended; or the output failed; or memory was wanting, which nothing shows.
  abbrev pub IsEndingOf : CommandLine → RunEnding → Type 0
  IsEndingOf line NoMeaning = ⊥
  IsEndingOf line (NoMetainfo why) = ⊥
  IsEndingOf line NoMemory = Unit {0}
  IsEndingOf line SinkFault = Rose (sinks.faults run.given.out) (sinks.faults run.came.out)
  IsEndingOf line told = told ≡ ending_by_history (start_by run line) (past_of_run run)

  abbrev pub HasEnding : Type 0
  HasEnding = OfBegun run (λ line. IsEndingOf line run.came.ended.ending)

  -- A front of the summary was printed, once; all of it, unless memory was wanting or the output failed.
  pub record PrintsSummaryOnce : Type 0 where
    pub text : List ℕ
    pub is : IsSummaryText says sinks run.given.words run.given.gids (length run.given.doors) run.given.disk run.given.out
        run.came.ended run.came.out text
    pub front : List ℕ
    pub rest : List ℕ
    pub is_front : text ≡ front ++ rest
    pub taken : IsTrue sinks.tells → sinks.taken run.came.out ≡ sinks.taken run.given.out ++ front
    pub all : (rest ≡ []) ⊎ MayBeShort says sinks run.given.words run.given.gids (length run.given.doors) run.given.disk
        run.given.out run.came.ended run.came.out

  abbrev pub HasOutput : Type 0
  HasOutput = OfBegun run (λ line. PrintsSummaryOnce)

-- ---- history and disk

module _ {D L K A O : Type 0} (says : DiskSays D) (run : OneRun D L K A O) where
  abbrev pub HasHistory : Type 0
  HasHistory = OfBegun run (λ line.
      IsHistoryOf says run.given.words run.given.gids (length run.given.doors) run.given.disk run.came.ended)

  abbrev pub TellsDisk : Type 0
  TellsDisk = OfBegun run (λ line.
      DiskCauses says run.given.words run.given.gids (length run.given.doors) run.given.disk run.came.ended)

  abbrev pub LeavesOthers : Type 0
  LeavesOthers = IsTrue says.tells → OfBegun run (λ line.
      OthersStay says run.given.words run.given.gids (length run.given.doors) run.given.disk run.came.ended)

  abbrev pub Survives : Type 0
  Survives = IsTrue says.tells → OfBegun run (λ line.
      LeavesKept says run.given.words run.given.gids (length run.given.doors) run.given.disk run.came.ended)

-- ---- links and doors

module _ {D L K A O : Type 0} (links : LinkSays L) (run : OneRun D L K A O) where
  abbrev pub TellsLinks : Type 0
  TellsLinks = OfBegun run (λ line.
      LinksCauses links run.given.words run.given.gids (length run.given.doors) (events_of_run run) run.given.links
      run.came.links)

  -- a worker over the only link takes so many turns at most
  abbrev pub TellsWhyUnfinished : Type 0
  TellsWhyUnfinished = OfLine run (λ line.
      ShowsUnfinished (is_alone run.given.links line) links run.given.words run.given.gids (length run.given.doors)
      run.given.links run.came.links run.came.ended)

  module _ (says : DiskSays D) where
    abbrev pub SparesMirrors : Type 0
    SparesMirrors = IsTrue links.tells → OfBegun run (λ line.
        HoldsNothing says links run.given.words run.given.gids (length run.given.doors) run.given.links run.came.links
        run.came.ended)

    abbrev pub LeavesUntouched : Type 0
    LeavesUntouched = OfLine run (λ line.
        LeavesLinks says links run.given.disk run.given.links run.came.ended run.came.links)

abbrev pub TellsDoors : {D L K A O : Type 0} → DoorSays A → ClockSays K → OneRun D L K A O → Type 0
TellsDoors doors clocks run = OfBegun run (λ line.
    DoorsCauses doors clocks run.given.words run.given.gids (edges run.given.links run.given.doors) run.came.ended
    (edges run.came.links run.came.doors) run.came.transcripts)

-- ---- what is served comes

module _ {D L K A O : Type 0} (says : DiskSays D) (links : LinkSays L) (sinks : SinkSays O) (run : OneRun D L K A O) where
  abbrev pub OverTelling : (CommandLine → Type 0) → Type 0
  OverTelling IsSo = IsTrue says.tells → IsTrue links.tells → OfLine run IsSo

  abbrev pub Completes : Type 0
  Completes = OverTelling (λ line.
      CompletesServed (is_alone run.given.links line) says links sinks run.given.words run.given.gids
      (length run.given.doors) run.given.disk run.given.links run.given.out run.came.ended run.came.links run.came.out)

  abbrev pub CompletesMirrors : Type 0
  CompletesMirrors = OverTelling (λ line.
      CompletesUris (is_alone run.given.links line) says links sinks run.given.words run.given.gids
      (length run.given.doors) run.given.disk run.given.links run.given.out run.came.ended run.came.links run.came.out)

  -- ---- over one link without a console

  abbrev pub CompletesByPieces : Type 0
  CompletesByPieces = OverTelling (λ line. is_alone run.given.links line ≡ true
      → CompletesPieces says links sinks run.given.words run.given.gids 0 run.given.disk run.given.links run.given.out
      run.came.ended run.came.links run.came.out)

  abbrev pub BoundsAlone : Type 0
  BoundsAlone = OfLine run (λ line. is_alone run.given.links line ≡ true
      → BoundsFirst says sinks links run.given.words run.given.gids run.given.disk run.given.links run.given.out
      run.came.ended run.came.links run.came.out)

-- ---- all that was done

module _ {D L K A O : Type 0} (says : DiskSays D) (links : LinkSays L) (clocks : ClockSays K) (doors : DoorSays A)
    (sinks : SinkSays O) (run : OneRun D L K A O) where
  -- over the one link alone, or over all links together with the console
  abbrev pub Does : Type 0
  Does = OfBegun run (λ line.
      MatchBool (is_alone run.given.links line) (RanAlone says links clocks sinks run)
      (RunsTogether says links clocks doors sinks run.given.words run.given.gids run.given.disk
      (edges run.given.links run.given.doors) run.given.out run.came.ended (edges run.came.links run.came.doors)
      run.came.transcripts run.came.out))

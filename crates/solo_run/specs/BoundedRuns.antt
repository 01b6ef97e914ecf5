-- How much comes of a run over one link.
use Rattle.std.specs.Prelude.{◌≡◌, ◌⊎◌, ◌≤◌, ◌<◌, ◌+◌, ◌-◌, ◌*◌, ℕ, false, Err, IsTrue, List, Ok, Some, length, reverse}
use Rattle.command_line.specs.Lines.{IsLine, has_console}
use Rattle.command_line.specs.declared.line.CommandLine.{CommandLine}
use Rattle.conn_worker.specs.declared.ends.Spent.{Spent}
use Rattle.conn_worker.specs.declared.ends.WorkEnd.TheVariants.{JournalFull}
use Rattle.conn_worker.specs.declared.working.TheConstants.{MAX_TURNS}
use Rattle.dl_disk.specs.declared.disk.Disk.{Ghosts as DiskSays}
use Rattle.dl_kinds.specs.declared.outside.Sink.{Ghosts as SinkSays}
use Rattle.engine_turns.specs.declared.limits.TheConstants.{MAX_ENTRIES}
use Rattle.link_source.specs.Exchanges.{Exchange}
use Rattle.link_source.specs.declared.Links.{Ghosts as LinkSays}
use Rattle.machine_core.specs.RunLegal.{download_in}
use Rattle.machine_core.specs.Starts.{Download, RunStart}
use Rattle.machine_core.specs.declared.events.Event.{Event}
use Rattle.machine_core.specs.declared.journal.TheConstants.{TURN_EVENTS}
use Rattle.request_chain.specs.Chains.{Gains, received_by}
use Rattle.run_lifecycle.specs.Begins.{start_of_line}
use Rattle.run_lifecycle.specs.declared.ended.Ended.{Ended}
use Rattle.run_report.specs.declared.endings.RunEnding.TheVariants.{Unfinished}
use Rattle.solo_run.specs.Pieces.{IsRunOverOne, RanOverOne}
use Rattle.solo_run.specs.Bounds.{IsBounded, limits_of, most_run_events}
use Rattle.work_bounds.specs.WorkLimits.{WorkLimits}

-- so many turns come of these events and of the bytes of these exchanges
abbrev pub most_turns : ℕ → List Exchange → ℕ
most_turns events used = 8 * (events + received_by used) + 8

module _ {D O L K : Type 0} (says : DiskSays D) (sinks : SinkSays O) (links : LinkSays L)
    (words : List (List ℕ)) (gids : ℕ) (disk : D) (old : L × K) (out : O) (ended : Ended D) (new : L × K)
    (out' : O) where
  -- these exchanges came over the link meanwhile
  abbrev pub CameOver : List Exchange → Type 0
  CameOver used = Gains (links.state old.0).exchanges (links.state new.0).exchanges used

  -- The run's worker took few turns, by the events of the run and the bytes that came over the link.
  -- Where it took as many as it may, so many are that few; where it met a full journal, the limits let
  -- that many events come. The run is left unfinished in these two cases alone.
  pub record HasFewTurns (limits : WorkLimits) : Type 0 where
    pub one : RanOverOne says sinks links words gids 0 disk old out ended new out'
    pub turns : (used : List Exchange) → CameOver used
        → length one.its.worked ≤ most_turns (length ended.journal.events.items) used
    pub spent : (by : Spent) → one.came ≡ Err by → (used : List Exchange) → CameOver used
        → MAX_TURNS ≤ most_turns (length ended.journal.events.items) used
    pub full : one.came ≡ Ok JournalFull → MAX_ENTRIES - TURN_EVENTS < most_run_events limits
    pub unfinished : ended.ending ≡ Unfinished
        → (one.came ≡ Ok JournalFull) ⊎ ((by : Spent) × (one.came ≡ Err by))

  -- its history, the newest event first
  abbrev pub past_of_run : List Event
  past_of_run = reverse ended.journal.events.items

  -- how the run of a line starts
  abbrev pub start_alone : CommandLine → RunStart
  start_alone line = start_of_line gids 0 line.globals

  -- The run of this line added this download, and has few claims and events. Where disk and link tell
  -- and no console was asked for, its worker took few turns.
  pub record IsBoundedRun (line : CommandLine) (download : Download) : Type 0 where
    pub events : IsBounded (start_alone line) past_of_run download
    pub turns : IsTrue says.tells → IsTrue links.tells → has_console words ≡ false
        → HasFewTurns (limits_of (start_alone line) past_of_run download)

  -- so it is of the download that a line added
  abbrev pub BoundsRun : Type 0
  BoundsRun =
      (line : CommandLine) (download : Download) → IsLine words line
      → download_in (start_alone line) past_of_run download.gid ≡ Some download
      → IsBoundedRun line download

module _ {D O L : Type 0} (K : Type 0) (says : DiskSays D) (sinks : SinkSays O)
    (links : LinkSays L) where
  -- so it is of each run over one link
  abbrev pub RunsOverOneAreBounded : Type 0
  RunsOverOneAreBounded =
      (words : List (List ℕ)) (gids : ℕ) (disk : D) (old : L × K) (out : O) (ended : Ended D)
      (new : L × K) (out' : O)
      → IsRunOverOne says sinks links words gids 0 disk old out ended new out'
      → BoundsRun says sinks links words gids disk old out ended new out'

-- What a run over all of its links and doors did, from the words to the summary.
use Rattle.std.specs.Prelude.{◌≡◌, ◌⊎◌, ◌||◌, ℕ, if◌then◌else◌, Bool, List, [], length}
use Rattle.console_session.specs.declared.serving.Transcript.{Transcript}
use Rattle.dl_clock.specs.declared.clock.Clock.{Ghosts as ClockSays}
use Rattle.dl_disk.specs.declared.disk.Disk.{Ghosts as DiskSays}
use Rattle.dl_kinds.specs.declared.outside.Sink.{Ghosts as SinkSays}
use Rattle.door_source.specs.declared.Doors.{Ghosts as DoorSays}
use Rattle.engine_core.specs.EngineViews.{EngineView}
use Rattle.link_source.specs.declared.Links.{Ghosts as LinkSays}
use Rattle.run_lifecycle.specs.Begins.{HasBegun}
use Rattle.run_lifecycle.specs.Finishes.{Finishes, NeverBegan}
use Rattle.run_lifecycle.specs.declared.beginning.Begun.{Begun}
use Rattle.run_lifecycle.specs.declared.ended.Ended.{Ended}
use Rattle.shared_run.specs.Together.{Edges, WorksAndStops}
use Rattle.shared_run.specs.declared.finished.FinishedRun.{FinishedRun}

-- what is left of a run, apart from what it was given beside the disk
abbrev pub ended_run : {D L K A : Type 0} → FinishedRun D L K A → Ended D
ended_run r = record { ending = r.ending; disk = r.disk; journal = r.journal }

-- what it was given beside the disk, and gives back
abbrev pub edges_left : {D L K A : Type 0} → FinishedRun D L K A → Edges L A K
edges_left r = record { links = r.links.items; doors = r.doors.items }

module _ {L A K : Type 0} where
  abbrev pub edges : List (L × K) → List (A × K) → Edges L A K
  edges links doors = record { links = links; doors = doors }

  -- doors are used where the console is on
  abbrev pub used_edges : Bool → Edges L A K → Edges L A K
  used_edges on olds = record { links = olds.links; doors = if on then olds.doors else [] }

  -- those that were used, and the doors that weren't
  abbrev pub with_unused : Bool → (olds used : Edges L A K) → Edges L A K
  with_unused on olds used = record { links = used.links; doors = if on then used.doors else olds.doors }

module _ {D L A K O : Type 0} (says : DiskSays D) (links : LinkSays L) (clocks : ClockSays K) (doors : DoorSays A)
    (sinks : SinkSays O) where
  -- From the command line's own call on its workers worked, each over its link, and its doors were served; it was stopped
  -- and ended.
  pub record GoesTogether (begun : Begun D) (olds : Edges L A K) (out : O) (ended : Ended D) (news : Edges L A K)
      (transcripts : List Transcript) (out' : O) : Type 0 where
    pub engine : EngineView D
    pub work_short : Bool
    pub works : WorksAndStops says links clocks doors begun.console begun.desk olds news transcripts engine work_short
    pub finishes : Finishes sinks engine (begun.is_short || work_short) out ended out'

  -- .. with its doors, where the console is on; otherwise each door is as it was
  pub record GoesOnBegun (begun : Begun D) (olds : Edges L A K) (out : O) (ended : Ended D) (news : Edges L A K)
      (transcripts : List Transcript) (out' : O) : Type 0 where
    pub used : Edges L A K
    pub goes : GoesTogether begun (used_edges begun.console.is_on olds) out ended used transcripts out'
    pub news_are : news ≡ with_unused begun.console.is_on olds used

  pub record RanTogether (words : List (List ℕ)) (gids : ℕ) (disk : D) (olds : Edges L A K) (out : O) (ended : Ended D)
      (news : Edges L A K) (transcripts : List Transcript) (out' : O) : Type 0 where
    pub begun : Begun D
    pub begins : HasBegun says words gids (length olds.doors) disk begun
    pub goes_on : GoesOnBegun begun olds out ended news transcripts out'

  -- it ended before it began, and links and doors are as they were; or it ran over them
  abbrev pub RunsTogether : List (List ℕ) → ℕ → D → Edges L A K → O → Ended D → Edges L A K → List Transcript → O → Type 0
  RunsTogether words gids disk olds out ended news transcripts out' =
      (NeverBegan says sinks words disk out ended out' × (news ≡ olds) × (transcripts ≡ []))
      ⊎ RanTogether words gids disk olds out ended news transcripts out'

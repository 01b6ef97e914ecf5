-- What a run over one link did, from the words to the summary.
use Rattle.std.specs.Prelude.{◌≡◌, ◌⊎◌, ◌||◌, ℕ, Bool, false, List, Result}
use Rattle.command_line.specs.Lines.{IsLine}
use Rattle.command_line.specs.declared.line.CommandLine.{CommandLine}
use Rattle.conn_worker.specs.Works.{RunSight, WorkedWithin}
use Rattle.conn_worker.specs.declared.ends.Spent.{Spent}
use Rattle.conn_worker.specs.declared.ends.WorkEnd.{WorkEnd}
use Rattle.dl_clock.specs.declared.clock.Clock.{Ghosts as ClockSays}
use Rattle.dl_disk.specs.declared.disk.Disk.{Ghosts as DiskSays}
use Rattle.dl_kinds.specs.declared.outside.Sink.{Ghosts as SinkSays}
use Rattle.engine_core.specs.Beginnings.{ties_run}
use Rattle.engine_core.specs.EngineViews.{EngineView}
use Rattle.engine_turns.specs.declared.operations.Answer.{Answer}
use Rattle.engine_turns.specs.declared.operations.Operation.TheVariants.{Stop}
use Rattle.engine_turns.specs.declared.operations.Said.{Said}
use Rattle.link_source.specs.declared.Links.{Ghosts as LinkSays}
use Rattle.turn_desk.specs.Sights.{Took}
use Rattle.run_lifecycle.specs.Begins.{HasBegun, is_no_memory}
use Rattle.run_lifecycle.specs.Consoles.{is_console_on}
use Rattle.run_lifecycle.specs.Finishes.{Finishes, NeverBegan}
use Rattle.run_lifecycle.specs.Stops.{IsAfter, ends_short}
use Rattle.run_lifecycle.specs.declared.beginning.Begun.{Begun}
use Rattle.run_lifecycle.specs.declared.ended.Ended.{Ended}

-- whatever line the words mean, it turns no console on
abbrev pub TurnNoConsoleOn : List (List ℕ) → Type 0
TurnNoConsoleOn words = (line : CommandLine) → IsLine words line → is_console_on line.globals ≡ false

-- memory was wanting, for the worker or for the turn behind it
abbrev pub is_short : Result WorkEnd Spent → Said → Bool
is_short came said = ends_short came || is_no_memory said

module _ {D L K : Type 0} (says : DiskSays D) (links : LinkSays L) (clocks : ClockSays K) where
  -- The worker's turns came over the link, by its clock, and a last one that stops the run; of each it was seen whether memory
  -- was wanting.
  pub record WorksThrough (s : RunSight D) (edge : L × K) (v : EngineView D) (edge' : L × K) (short : Bool) : Type 0 where
    pub mid : RunSight D
    pub end : RunSight D
    pub came : Result WorkEnd Spent
    pub worked : WorkedWithin links clocks 0 s edge mid edge' came
    pub answer : Answer
    pub stop : Took ties_run mid (Stop (record { 0 = 0 })) answer end
    pub short_is : short ≡ is_short came answer.said
    pub after : IsAfter says end.given end.own v

  module _ {O : Type 0} (sinks : SinkSays O) where
    -- from the command line's own call on it worked over the link, was stopped and ended
    pub record GoesThrough (begun : Begun D) (edge : L × K) (out : O) (ended : Ended D) (edge' : L × K) (out' : O)
        : Type 0 where
      pub engine : EngineView D
      pub work_short : Bool
      pub works : WorksThrough begun.desk edge engine edge' work_short
      pub finishes : Finishes sinks engine (begun.is_short || work_short) out ended out'

    pub record RanOver (words : List (List ℕ)) (gids : ℕ) (disk : D) (edge : L × K) (out : O) (ended : Ended D)
        (edge' : L × K) (out' : O) : Type 0 where
      pub begun : Begun D
      pub begins : HasBegun says words gids 0 disk begun
      pub goes : GoesThrough begun edge out ended edge' out'

    -- it ended before it began, and the link and its clock are as they were; or it ran over the link
    abbrev pub RunsOver : List (List ℕ) → ℕ → D → L × K → O → Ended D → L × K → O → Type 0
    RunsOver words gids disk edge out ended edge' out' =
        (NeverBegan says sinks words disk out ended out' × (edge' ≡ edge))
        ⊎ RanOver words gids disk edge out ended edge' out'

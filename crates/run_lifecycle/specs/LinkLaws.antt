-- What follows of links from all that a run did.
use Rattle.std.specs.Prelude.{ℕ, Contains, List}
use Rattle.dl_disk.specs.declared.disk.Disk.{Ghosts as DiskSays}
use Rattle.dl_kinds.specs.declared.gid.Gid.{Gid}
use Rattle.dl_kinds.specs.declared.marks.Mark.{Mark}
use Rattle.dl_kinds.specs.declared.outside.Sink.{Ghosts as SinkSays}
use Rattle.engine_turns.specs.Told.{RunTurn}
use Rattle.link_source.specs.declared.Links.{Ghosts as LinkSays}
use Rattle.machine_core.specs.declared.events.Event.TheVariants.{Lost, Sized}
use Rattle.run_lifecycle.specs.Begins.{start_of_line}
use Rattle.run_lifecycle.specs.Finishes.{Ran}
use Rattle.run_lifecycle.specs.LinkCauses.{ComesOfClaimEnd, LostAsTold, SizedAsTold, WorkedAmong}
use Rattle.run_lifecycle.specs.Stops.{all_turns}
use Rattle.run_lifecycle.specs.declared.ended.Ended.{Ended}

module _ {D O : Type 0} (says : DiskSays D) (sinks : SinkSays O) where
  -- ---- which turns bring losses and lengths

  abbrev pub LossesComeOfWorkers : Type 0
  LossesComeOfWorkers =
      (words : List (List ℕ)) (gids doors : ℕ) (disk : D) (out : O) (ended : Ended D) (out' : O)
      (ran : Ran says sinks words gids doors disk out ended out') (gid : Gid) (id mirror piece : ℕ) (mark : Mark)
      → Contains ended.journal.events.items (Lost gid id mirror piece mark)
      → ComesOfClaimEnd ran.stops.middle (Lost gid id mirror piece mark)

  abbrev pub LengthsComeOfWorkers : Type 0
  LengthsComeOfWorkers =
      (words : List (List ℕ)) (gids doors : ℕ) (disk : D) (out : O) (ended : Ended D) (out' : O)
      (ran : Ran says sinks words gids doors disk out ended out') (gid : Gid) (id total : ℕ)
      → Contains ended.journal.events.items (Sized gid id total)
      → ComesOfClaimEnd ran.stops.middle (Sized gid id total)

  module _ {L : Type 0} (links : LinkSays L) where
    -- ---- the turns of one worker

    abbrev pub WorkersShowLosses : Type 0
    WorkersShowLosses =
        (words : List (List ℕ)) (gids doors : ℕ) (disk : D) (out : O) (ended : Ended D) (out' : O)
        (ran : Ran says sinks words gids doors disk out ended out') (worker : ℕ) (old new : L)
        (own : WorkedAmong D links worker (all_turns says ran.stops) old new)
        (t : RunTurn) (gid : Gid) (id mirror piece : ℕ) (mark : Mark) → Contains own.its.worked t
        → Contains t.events (Lost gid id mirror piece mark)
        → LostAsTold links (start_of_line gids doors ran.begins.line.globals) ended.journal.events.items worker old new
        gid id mirror mark

    abbrev pub WorkersShowLengths : Type 0
    WorkersShowLengths =
        (words : List (List ℕ)) (gids doors : ℕ) (disk : D) (out : O) (ended : Ended D) (out' : O)
        (ran : Ran says sinks words gids doors disk out ended out') (worker : ℕ) (old new : L)
        (own : WorkedAmong D links worker (all_turns says ran.stops) old new)
        (t : RunTurn) (gid : Gid) (id total : ℕ) → Contains own.its.worked t
        → Contains t.events (Sized gid id total)
        → SizedAsTold links (start_of_line gids doors ran.begins.line.globals) ended.journal.events.items worker old new
        gid id total

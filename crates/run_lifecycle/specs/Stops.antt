-- What stands between the beginning of a run and its end.
use Rattle.std.specs.Prelude.{◌≡◌, Bool, true, false, List, [], ◌∷◌, ◌++◌, Result, Ok}
use Rattle.conn_worker.specs.Works.{RunSight}
use Rattle.conn_worker.specs.declared.ends.Spent.{Spent}
use Rattle.conn_worker.specs.declared.ends.WorkEnd.{WorkEnd}
use Rattle.conn_worker.specs.declared.ends.WorkEnd.TheVariants as end
use Rattle.dl_disk.specs.declared.disk.Disk.{Ghosts as DiskSays}
use Rattle.engine_core.specs.Beginnings.{beginning_of, events_in, mark_of, stands_for, ties_run}
use Rattle.engine_core.specs.EngineViews.{EngineStart, EngineView}
use Rattle.engine_turns.specs.Told.{RunTurn}
use Rattle.engine_turns.specs.declared.operations.Operation.TheVariants.{Stop}
use Rattle.machine_core.specs.declared.events.Event.{Event}
use Rattle.turn_desk.specs.Turns.{AreTurns, history, last_mark}
use Rattle.turn_desk.specs.declared.turn.Given.{Given}
use Rattle.run_lifecycle.specs.Begins.{is_no_memory}

-- memory was wanting for a worker
abbrev pub ends_short : Result WorkEnd Spent → Bool
ends_short (Ok end.NoMemory) = true
ends_short other = false

module _ {D : Type 0} (says : DiskSays D) where
  -- the engine is the one after these turns, which are all
  pub record IsAfter (given : Given (EngineStart D) Event) (turns : List RunTurn) (v : EngineView D) : Type 0 where
    pub stands : stands_for says.tells says.state v turns
    pub start : beginning_of v ≡ given.start
    pub events : events_in v ≡ history given turns
    pub mark : mark_of says.tells says.state says.faults v ≡ last_mark given.mark turns
    pub ties : AreTurns ties_run given turns

  -- Behind the turns that the caller took, which are the first of all, turns of anybody came, and a last one that stops
  -- the run. Where that one was answered for want of memory, this is told.
  pub record StopsRun (s : RunSight D) (v : EngineView D) (short : Bool) : Type 0 where
    pub middle : List RunTurn
    pub last : RunTurn
    pub op : last.op ≡ Stop (record { 0 = 0 })
    pub said : short ≡ false → is_no_memory last.answer.said ≡ false
    pub after : IsAfter s.given ((s.own ++ middle) ++ last ∷ []) v

  -- all turns of a run
  abbrev pub all_turns : {s : RunSight D} {v : EngineView D} {short : Bool} → StopsRun s v short → List RunTurn
  all_turns {s} stops = (s.own ++ stops.middle) ++ stops.last ∷ []

-- How an operation begins.
use Rattle.std.specs.Prelude.{◌≡◌, Bool, Option, Some, None, max}
use Rattle.dl_kinds.specs.declared.runs.Moment.{Moment}
use Rattle.machine_core.specs.TurnRooms.{IsRoomierRun}
use Rattle.engine_turns.specs.RunTurns.{answer_to}
use Rattle.engine_turns.specs.declared.operations.Said.{Said}
use Rattle.engine_turns.specs.declared.operations.Said.TheVariants.{NoMemory}
use Rattle.engine_core.specs.declared.state.EngineState.{EngineState}

-- it is answered so, or memory ran out
abbrev pub IsBrokenOff : Option Said → Said → Type 0
IsBrokenOff (Some before) said = said ≡ before
IsBrokenOff None said = said ≡ NoMemory

module _ {D : Type 0} where
  -- what is answered before anything is done
  abbrev pub front_of : (asks needs : Bool) → EngineState D → Option Said
  front_of asks needs e = answer_to asks needs e.run.machine.start e.run.machine.past

  -- its moment came, and only the room may be more
  pub record Begins (now : Moment) (old new : EngineState D) : Type 0 where
    pub machine : IsRoomierRun old.run.machine new.run.machine
    pub disk : new.run.disk ≡ old.run.disk
    pub wants : new.run.wants ≡ old.run.wants
    pub moment : new.run.now.0 ≡ max now.0 old.run.now.0
    pub handed : new.handed ≡ old.handed
    pub limits : new.limits ≡ old.limits

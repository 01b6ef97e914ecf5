-- An engine beside the disk that it was given.
use Rattle.machine_core.specs.Starts.{RunStart}
use Rattle.engine_core.specs.declared.state.EngineState.{EngineState}

-- what contracts see of an engine
pub record EngineView (D : Type 0) : Type 0 where
  pub state : EngineState D
  pub given : D  -- the disk that it was given

-- what a run begins with
pub record EngineStart (D : Type 0) : Type 0 where
  pub run : RunStart
  pub disk : D

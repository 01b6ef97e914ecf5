use Rattle.machine_core.proofs.RunSteps.{steps_legal}
use Rattle.machine_core.proofs.laws.steps_stay_legal.Goals as goal

pub returns : goal.returns
returns c = steps_legal

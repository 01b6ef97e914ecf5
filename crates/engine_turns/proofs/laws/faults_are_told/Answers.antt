use Rattle.engine_turns.proofs.Faults.{counts_never_fall, rises_are_told}
use Rattle.engine_turns.proofs.laws.faults_are_told.Goals as goal

pub returns-clause-rises : goal.returns-clause-rises
returns-clause-rises c = rises_are_told

pub returns-clause-within : goal.returns-clause-within
returns-clause-within c = counts_never_fall

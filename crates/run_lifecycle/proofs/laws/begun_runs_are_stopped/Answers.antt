use Rattle.run_lifecycle.proofs.Whole.{stopped}
use Rattle.run_lifecycle.proofs.laws.begun_runs_are_stopped.Goals as goal

pub returns : goal.returns
returns g c words gids doors disk out ended out' ran = stopped ran c.turns_tell_runs.ensures.appended

use Rattle.run_lifecycle.proofs.Causes.{shows_disk}
use Rattle.run_lifecycle.proofs.laws.runs_show_their_disk.Goals as goal

pub returns : goal.returns
returns g c words gids doors disk out ended out' runs = shows_disk c.turns_tell_runs.ensures.appended runs

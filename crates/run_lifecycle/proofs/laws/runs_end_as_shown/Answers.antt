use Rattle.run_lifecycle.proofs.Shown.{ends_as_shown}
use Rattle.run_lifecycle.proofs.laws.runs_end_as_shown.Goals as goal

pub returns : goal.returns
returns g c words gids doors disk out ended out' runs = ends_as_shown c.lines_are_one.ensures runs

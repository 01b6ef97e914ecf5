use Rattle.run_lifecycle.proofs.OnlyRead.{only_reads}
use Rattle.run_lifecycle.proofs.laws.unbegun_runs_only_read.Goals as goal

pub returns : goal.returns
returns g c words gids doors disk out ended out' runs =
    only_reads runs (c.begun_runs_are_stopped.ensures _ _ _ _ _ _ _) (c.runs_end_as_shown.ensures _ _ _ _ _ _ _ runs)

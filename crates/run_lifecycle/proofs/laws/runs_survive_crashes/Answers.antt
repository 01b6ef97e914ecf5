use Rattle.run_lifecycle.proofs.Kept.{kept}
use Rattle.run_lifecycle.proofs.laws.runs_survive_crashes.Goals as goal

pub returns : goal.returns
returns g c words gids doors disk out ended out' ran tells fed =
    kept ran tells c.disks_keep_runs.ensures.complete c.disks_keep_runs.ensures.crash fed

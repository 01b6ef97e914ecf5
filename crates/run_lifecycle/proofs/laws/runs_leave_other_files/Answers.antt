use Rattle.run_lifecycle.proofs.Others.{leaves_other_files}
use Rattle.run_lifecycle.proofs.laws.runs_leave_other_files.Goals as goal

pub returns : goal.returns
returns g c words gids doors disk out ended out' ran tells fed = leaves_other_files c.wants_stay.ensures ran tells fed

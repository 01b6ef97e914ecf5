use Rattle.served_runs.proofs.Done.{are_done}
use Rattle.served_runs.proofs.laws.finished_runs_are_done.Goals as goal

pub returns : goal.returns
returns g c = are_done g.D.Disk g.O.Sink

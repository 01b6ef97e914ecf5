use Rattle.served_runs.proofs.ServedRuns.{runs_tell_right}
use Rattle.served_runs.proofs.serving.runs_tell_right_lengths.Goals as goal

pub returns : goal.returns
returns g c = runs_tell_right g.D.Disk g.O.Sink g.L.Links c.served_claims_are_faithful.ensures.lengths

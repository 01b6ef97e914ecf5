use Rattle.served_runs.proofs.ServedRuns.{runs_are_faithful}
use Rattle.served_runs.proofs.serving.runs_are_faithful.Goals as goal

pub returns : goal.returns
returns g c = runs_are_faithful g.D.Disk g.O.Sink g.L.Links c.served_claims_are_faithful.ensures.claims

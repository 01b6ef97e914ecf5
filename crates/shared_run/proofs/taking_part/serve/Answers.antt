use Rattle.shared_run.proofs.Serving.{same_secret}
use Rattle.shared_run.proofs.taking_part.serve.Goals as goal

pub returns-clause-served : goal.returns-clause-served
returns-clause-served g c = same_secret _ _ c.secret_of-secret.ensures c.serve_door.ensures.served

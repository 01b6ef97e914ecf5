use Rattle.worker_turns.proofs.BusyTurns.{solo_busy}
use Rattle.worker_turns.proofs.laws.solo_runs_are_busy.Goals as goal

pub returns : goal.returns
returns g c = solo_busy c.lone_workers_claim_once.ensures.claims g.D.Disk.state

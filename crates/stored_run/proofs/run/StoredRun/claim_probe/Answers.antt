use Rattle.stored_run.proofs.Leaving.{leaves_still}
use Rattle.stored_run.proofs.run.StoredRun.claim_probe.Goals as goal

pub returns-in_err-url-clause-leaves : goal.returns-in_err-url-clause-leaves
returns-in_err-url-clause-leaves g c told =
    let d = g.D.Disk in
    let v = c.args.self.now in
    leaves_still c.runs_follow.ensures d.tells (d.faults v.disk) v (d.state v.disk) c.tells_stored.ensures told

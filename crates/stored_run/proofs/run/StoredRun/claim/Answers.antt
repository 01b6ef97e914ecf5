use Rattle.stored_run.proofs.Grants.{claimed_kept}
use Rattle.stored_run.proofs.Leaving.{leaves_claimed}
use Rattle.stored_run.proofs.run.StoredRun.claim.Goals as goal

pub invariant_of-self : goal.invariant_of-self
invariant_of-self g c =
    let a = c.args in
    claimed_kept c.runs_follow.ensures _ _ _ c.self.inside.machine c.claimed.new.self _ _ a.gid a.worker a.mirror a.run a.victim
    c.claimed.result c.claimed.ensures.event c.claimed.ensures.same c.self.invariant

pub returns-clause-leaves : goal.returns-clause-leaves
returns-clause-leaves g c told =
    let d = g.D.Disk in
    let a = c.args in
    leaves_claimed c.runs_follow.ensures d.tells d.faults d.state _ a.self.now c.claimed.new.self a.gid a.worker a.mirror
    a.run a.victim c.self.view_is c.self.invariant told c.claimed.result c.claimed.ensures.event c.claimed.ensures.same

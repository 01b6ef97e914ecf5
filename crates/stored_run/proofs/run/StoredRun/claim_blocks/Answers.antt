use Rattle.std.proofs.Common.{subst}
use Rattle.machine_core.specs.RunLegal.{MayFollow}
use Rattle.machine_core.specs.declared.events.Event.{Event}
use Rattle.stored_run.proofs.Grants.{claims_run}
use Rattle.stored_run.proofs.Leaving.{leaves_still}
use Rattle.stored_run.proofs.run.StoredRun.claim_blocks.Goals as goal

pub job-requires-clause-run : goal.job-requires-clause-run
job-requires-clause-run g c want kept =
    let a = c.args in
    let v = a.self.now in
    let next = c.requires.next a.worker in
    claims_run c.runs_follow.ensures v.machine.start v.machine.past a.gid want v.now a.worker a.mirror a.run a.victim next.1.0
    c.tells_stored.ensures.legal (c.tells_stored.ensures.wants_are.has a.gid want kept) c.requires.opened
    (subst (λ (e : Event). MayFollow v.machine.start v.machine.past e) next.1.1 next.2)

pub returns-in_err-job-clause-leaves : goal.returns-in_err-job-clause-leaves
returns-in_err-job-clause-leaves g c told =
    let d = g.D.Disk in
    let v = c.args.self.now in
    leaves_still c.runs_follow.ensures d.tells (d.faults v.disk) v (d.state v.disk) c.tells_stored.ensures told

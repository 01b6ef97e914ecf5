use Rattle.std.proofs.Common.{subst}
use Rattle.std.specs.Prelude.{IfOk}
use Rattle.machine_core.specs.Claiming.{IsOfferedNow}
use Rattle.stored_run.specs.declared.run.StoredView.{StoredView}
use Rattle.stored_run.proofs.Grants.{may_give_ok}
use Rattle.stored_run.proofs.Leaving.{leaves_roomier}
use Rattle.stored_run.proofs.run.StoredRun.offer.Goals as goal

pub returns-clause-offered : goal.returns-clause-offered
returns-clause-offered g c =
    subst (λ (v : StoredView _). IfOk c.offer.result (IsOfferedNow v.machine c.args.handed.now.pieces c.args.limits.now v.now.0))
    c.self.view_is c.offer.ensures.offered

pub returns-clause-may : goal.returns-clause-may
returns-clause-may g c =
    let u = c.self.inside in
    may_give_ok u.machine c.args.handed.now.pieces c.args.limits.now u.now.0
    (record { disk = u.disk; machine = c.offer.new.self; wants = u.wants; now = u.now }) c.offer.ensures.same c.offer.result
    c.offer.ensures.offered c.offer.ensures.taken

pub returns-clause-leaves : goal.returns-clause-leaves
returns-clause-leaves g c told =
    let d = g.D.Disk in
    leaves_roomier c.runs_follow.ensures d.tells d.faults d.state _ c.args.self.now c.offer.new.self c.self.view_is
    c.self.invariant told c.offer.ensures.same

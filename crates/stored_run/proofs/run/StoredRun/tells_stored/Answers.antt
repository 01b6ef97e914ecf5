use Rattle.std.proofs.Common.{subst}
use Rattle.stored_run.specs.Stored.{IsStoredRun}
use Rattle.stored_run.specs.declared.run.StoredView.{StoredView}
use Rattle.stored_run.proofs.run.StoredRun.tells_stored.Goals as goal

pub returns : goal.returns
returns g c =
    let d = g.D.Disk in
    subst (λ (w : StoredView _). IsStoredRun d.tells (d.faults w.disk) (d.state w.disk) w) c.self.view_is c.self.invariant

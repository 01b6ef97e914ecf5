use Rattle.std.proofs.Common.{◌∙◌, subst, sym}
use Rattle.stored_run.specs.Saves.{IsDueOff}
use Rattle.stored_run.specs.declared.run.StoredView.{StoredView}
use Rattle.stored_run.proofs.Dues.{opened_added}
use Rattle.stored_run.proofs.Those.{no_some}
use Rattle.stored_run.proofs.run.StoredRun.is_due_off.Goals as goal

pub returns-in-None : goal.returns-in-None
returns-in-None g c due =
    let m = c.self.inside.machine in
    let here = subst (λ (w : StoredView _). IsDueOff c.args.was.now w c.args.gid) (sym c.self.view_is) due in
    let added = opened_added m.start m.past c.self.inside.wants.items c.args.gid c.self.invariant.wants_are here.has.opened in
    no_some added.0 (sym c.in-None.ensures.none ∙ added.1)

use Rattle.std.proofs.Common.{◌∙◌, Bool, subst, sym}
use Rattle.std.specs.Prelude.{MatchBool}
use Rattle.stored_run.specs.Saves.{HasOpenedUnsaved}
use Rattle.stored_run.specs.declared.run.StoredView.{StoredView}
use Rattle.stored_run.proofs.Dues.{table_some}
use Rattle.stored_run.proofs.run.StoredRun.is_unsaved.Goals as goal

pub returns-else-is_some : goal.returns-else-is_some
returns-else-is_some g c =
    let v = c.args.self.now in
    let m = c.self.inside.machine in
    subst (λ (b : Bool). MatchBool b (HasOpenedUnsaved v c.args.gid) (¬ HasOpenedUnsaved v c.args.gid))
    (sym c.if-is_some.false)
    (λ has.
    let here = subst (λ (w : StoredView _). HasOpenedUnsaved w c.args.gid) (sym c.self.view_is) has in
    table_some c.table.result m.start m.past c.self.inside.wants.items c.args.gid c.self.invariant.wants_are
    c.table.ensures.none (sym c.is_some.ensures ∙ c.if-is_some.false) here.opened)

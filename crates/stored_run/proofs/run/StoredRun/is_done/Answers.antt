use Rattle.std.proofs.Common.{◌≡◌, Some, subst, sym, true}
use Rattle.std.specs.Prelude.{MatchBool}
use Rattle.machine_core.proofs.WantedRows.{done_by}
use Rattle.machine_core.specs.RunLegal.{download_in}
use Rattle.dl_history.specs.PayloadParts.{is_opened}
use Rattle.stored_run.specs.Settlings.{IsDone}
use Rattle.stored_run.specs.Views.{own_in}
use Rattle.stored_run.specs.declared.run.StoredView.{StoredView}
use Rattle.stored_run.proofs.Completing.{done_as}
use Rattle.stored_run.proofs.run.StoredRun.is_done.Goals as goal

pub is_done-requires : goal.is_done-requires
is_done-requires g c =
    subst (λ (w : StoredView _). is_opened (own_in w c.args.gid) ≡ true) (sym c.self.view_is) c.requires

pub returns : goal.returns
returns g c download added =
    let here = subst (λ (w : StoredView _). download_in w.machine.start w.machine.past c.args.gid ≡ Some download)
    (sym c.self.view_is) added in
    subst (λ (w : StoredView _). MatchBool c.is_done.result (IsDone w download) (¬ IsDone w download)) c.self.view_is
    (done_by c.is_done.result _ _ (done_as c.self.inside.machine c.args.gid download here) c.is_done.ensures)

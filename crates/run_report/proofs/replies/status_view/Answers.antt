use Rattle.std.proofs.Common.{◌∙◌, Some, ap}
use Rattle.run_report.specs.declared.views.StatusView.{StatusView}
use Rattle.machine_core.proofs.Here.{told_some}
use Rattle.run_report.specs.Told.{IsReadOf}
use Rattle.run_report.proofs.Telling.{told_status}
use Rattle.run_report.proofs.replies.status_view.Goals as goal

pub returns-in_ok-status_view-in-Some : goal.returns-in_ok-status_view-in-Some
returns-in_ok-status_view-in-Some c = λ names are.
    ap (λ (view : StatusView). Some view) c.in_ok-status_view-in-Some.ensures
    ∙ told_status c.args.machine.now c.args.gid c.args.now c.in-Some.download names
    (told_some (IsReadOf c.args.machine.now c.args.gid) c.in_ok-read.read c.in-Some.download c.in-Some.is
    c.in_ok-read.ensures.found) are

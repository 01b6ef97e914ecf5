use Rattle.std.proofs.Common.{◌∙◌, List, Some, ap}
use Rattle.run_report.specs.declared.kinds.Reply.TheVariants as reply
use Rattle.run_report.specs.declared.views.FileView.{FileView}
use Rattle.machine_core.proofs.Here.{told_some}
use Rattle.run_report.specs.Told.{IsReadOf}
use Rattle.run_report.proofs.Telling.{told_files}
use Rattle.run_report.proofs.replies.files_reply.Goals as goal

pub returns-in_ok-file_views-in-Some : goal.returns-in_ok-file_views-in-Some
returns-in_ok-file_views-in-Some c = λ names are.
    ap (λ (views : List FileView). Some (reply.Files views)) c.in_ok-file_views-in-Some.ensures
    ∙ told_files c.args.machine.now c.args.gid c.in-Some.download names
    (told_some (IsReadOf c.args.machine.now c.args.gid) c.in_ok-read.read c.in-Some.download c.in-Some.is
    c.in_ok-read.ensures.found) are

use Rattle.std.proofs.Common.{◌∙◌, List, Some, ap}
use Rattle.run_report.specs.declared.kinds.Reply.TheVariants as reply
use Rattle.run_report.specs.declared.views.UriView.{UriView}
use Rattle.machine_core.proofs.Here.{told_some}
use Rattle.run_report.specs.Told.{IsReadOf}
use Rattle.run_report.proofs.Telling.{told_uris}
use Rattle.run_report.proofs.replies.uris_reply.Goals as goal

pub returns-in_ok-first_uris-in-Some : goal.returns-in_ok-first_uris-in-Some
returns-in_ok-first_uris-in-Some c =
    ap (λ (views : List UriView). Some (reply.Uris views)) c.in_ok-first_uris-in-Some.ensures
    ∙ told_uris c.args.machine.now c.args.gid c.in-Some.download
    (told_some (IsReadOf c.args.machine.now c.args.gid) c.in_ok-read.read c.in-Some.download c.in-Some.is
    c.in_ok-read.ensures.found)

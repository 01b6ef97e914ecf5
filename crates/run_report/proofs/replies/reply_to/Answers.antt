use Rattle.std.proofs.Common.{◌≡◌, ℕ, List}
use Rattle.dl_kinds.specs.declared.gid.Gid.{Gid}
use Rattle.run_report.specs.Replies.{reply_of}
use Rattle.run_report.specs.Subjects.{AreNames}
use Rattle.run_report.specs.declared.kinds.Reply.{Reply}
use Rattle.run_report.proofs.Telling.{for_all_names}
use Rattle.run_report.proofs.replies.reply_to.Goals as goal

pub returns : goal.returns
returns c =
    let m = c.args.machine.now in
    for_all_names (AreNames m.start m.past)
    (λ (names : Gid → List ℕ) (answer : Reply). answer ≡ reply_of m.start m.past names c.args.call.now c.args.now)
    c.reply_by_names.result c.reply_by_names.ensures

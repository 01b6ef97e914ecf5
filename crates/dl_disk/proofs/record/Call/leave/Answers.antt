use Rattle.std.proofs.lemmas.Result.{on_ok_weaker}
use Rattle.dl_disk.specs.Contents.{files_of}
use Rattle.dl_disk.proofs.CrashLemmas.{put_is_left}
use Rattle.dl_disk.proofs.record.Call.leave.Goals as goal

pub returns-in-Change : goal.returns-in-Change
returns-in-Change c =
    on_ok_weaker c.leave_edit.result
    (λ puts. rw c.in-Change.is (put_is_left c.args.choice c.args.self.now.name c.in-Change.edit (files_of c.args.left.now) (files_of c.leave_edit.new.left) puts))
    (rw c.as_str-name.ensures at c.leave_edit.ensures)

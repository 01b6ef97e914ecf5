use Rattle.std.proofs.lemmas.Result.{on_ok_weaker}
use Rattle.resume_core.proofs.Apart.{control_other}
use Rattle.resume_core.proofs.Ends.{performs_finish, performs_synced, are_finished}
use Rattle.resume_core.proofs.finishing.sync_and_remove.Goals as goal

pub returns-in_err-sync_files-clause-performs : goal.returns-in_err-sync_files-clause-performs
returns-in_err-sync_files-clause-performs g c told =
    let d = g.D.Disk in
    let want = c.args.want.now in
    performs_synced want (control_other want c.requires.want) (d.state c.args.disk.now) (d.state c.sync_files.new.disk)
    (c.sync_files.ensures.performs told)

pub returns-clause-performs : goal.returns-clause-performs
returns-clause-performs g c told =
    let d = g.D.Disk in
    let want = c.args.want.now in
    performs_finish want (control_other want c.requires.want) (d.state c.args.disk.now) (d.state c.sync_files.new.disk)
    (d.state c.remove.new.self) (c.sync_files.ensures.performs told)
    (rw c.as_str.ensures at c.in_ok-sync_files.ensures.durable told) c.remove.result
    (rw c.requires.name at c.remove.ensures.alters told)

pub returns-clause-finished : goal.returns-clause-finished
returns-clause-finished g c =
    let d = g.D.Disk in
    let want = c.args.want.now in
    on_ok_weaker c.remove.result
    (λ removed told. are_finished want (control_other want c.requires.want) (d.state c.args.disk.now)
    (d.state c.sync_files.new.disk) (d.state c.remove.new.self) (c.sync_files.ensures.performs told)
    (rw c.as_str.ensures at c.in_ok-sync_files.ensures.durable told)
    (rw c.requires.name at removed told))
    c.remove.ensures.removed

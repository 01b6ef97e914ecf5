use Rattle.resume_core.proofs.Apart.{control_other}
use Rattle.resume_core.proofs.Ends.{performs_unfinished, payload_kept, sound_throughout}
use Rattle.resume_core.proofs.finishing.finish.Goals as goal

pub returns-in_err-control-clause-sound : goal.returns-in_err-control-clause-sound
returns-in_err-control-clause-sound g c told =
    let was = g.D.Disk.state c.args.disk.now in
    let want = c.args.want.now in
    sound_throughout want (control_other want c.requires) was was
    (performs_unfinished want (control_other want c.requires) was)

pub returns-in_err-sync_and_remove-clause-payload : goal.returns-in_err-sync_and_remove-clause-payload
returns-in_err-sync_and_remove-clause-payload g c told =
    let d = g.D.Disk in
    let want = c.args.want.now in
    payload_kept want (control_other want c.requires) (d.state c.args.disk.now) (d.state c.sync_and_remove.new.disk)
    (c.sync_and_remove.ensures.performs told)

pub returns-in_err-sync_and_remove-clause-sound : goal.returns-in_err-sync_and_remove-clause-sound
returns-in_err-sync_and_remove-clause-sound g c told =
    let d = g.D.Disk in
    let want = c.args.want.now in
    sound_throughout want (control_other want c.requires) (d.state c.args.disk.now)
    (d.state c.sync_and_remove.new.disk) (c.sync_and_remove.ensures.performs told)

pub returns-clause-sound : goal.returns-clause-sound
returns-clause-sound g c told =
    let d = g.D.Disk in
    let want = c.args.want.now in
    sound_throughout want (control_other want c.requires) (d.state c.args.disk.now)
    (d.state c.sync_and_remove.new.disk) (c.sync_and_remove.ensures.performs told)

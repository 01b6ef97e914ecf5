use Rattle.resume_core.proofs.Beside.{beside_same}
use Rattle.resume_core.proofs.Filed.{files_kept}
use Rattle.resume_core.proofs.Openings.{sound_same_step, given_same_step}
use Rattle.resume_core.proofs.holding.hold_control.Goals as goal

pub returns-then-stood-clause-payload : goal.returns-then-stood-clause-payload
returns-then-stood-clause-payload g c told =
    let d = g.D.Disk in
    files_kept c.args.want.now (d.state c.args.disk.now).seen (d.state c.sync_control.new.disk).seen
    (c.sync_control.ensures.performs told).seen

pub returns-then-stood-clause-sound : goal.returns-then-stood-clause-sound
returns-then-stood-clause-sound g c told =
    let d = g.D.Disk in
    sound_same_step c.args.want.now (d.state c.args.disk.now) (d.state c.sync_control.new.disk)
    (c.sync_control.ensures.performs told).seen (c.sync_control.ensures.performs told).passes

pub returns-then-stood-clause-gives : goal.returns-then-stood-clause-gives
returns-then-stood-clause-gives g c told stood =
    let d = g.D.Disk in
    given_same_step c.args.want.now (d.state c.args.disk.now) (d.state c.sync_control.new.disk)
    (c.sync_control.ensures.performs told).seen (c.sync_control.ensures.performs told).passes

pub returns-then-stood-clause-beside : goal.returns-then-stood-clause-beside
returns-then-stood-clause-beside g c told =
    let d = g.D.Disk in
    beside_same c.args.want.now c.args.lens.now (d.state c.args.disk.now) (d.state c.sync_control.new.disk)
    (c.sync_control.ensures.performs told)

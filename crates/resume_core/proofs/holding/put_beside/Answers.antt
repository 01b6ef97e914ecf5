use Rattle.dl_disk.specs.Files.{IsSame}
use Rattle.dl_disk.specs.Passes.{performs_on}
use Rattle.resume_core.specs.Steps.{PutsOrKeeps}
use Rattle.resume_core.specs.Wants.{control_name, temporary_name}
use Rattle.resume_core.proofs.Openings.{puts_none, puts_after}
use Rattle.resume_core.proofs.Beside.{beside_none, beside_same, performs_beside}
use Rattle.resume_core.proofs.holding.put_beside.Goals as goal

pub returns-clause-performs : goal.returns-clause-performs
returns-clause-performs g c told =
    let d = g.D.Disk in
    let want = c.args.want.now in
    let step = PutsOrKeeps (temporary_name want) (control_name want) c.args.bytes.now in
    performs_on IsSame step step (d.state c.args.disk.now) (d.state c.sync_standing.new.disk)
    (d.state c.put_file.new.disk)
    (puts_none (temporary_name want) (control_name want) c.args.bytes.now)
    (puts_after (temporary_name want) (control_name want) c.args.bytes.now)
    (c.sync_standing.ensures.performs told)
    (rw (c.as_str.ensures.value, c.in_ok-temporary.ensures, c.as_str-2.ensures.value, c.in_ok-name.ensures) at
    c.put_file.ensures.performs told)

pub returns-clause-beside : goal.returns-clause-beside
returns-clause-beside g c told =
    let d = g.D.Disk in
    performs_beside c.args.want.now c.args.lens.now c.requires.want c.args.bytes.now (d.state c.args.disk.now)
    (d.state c.sync_standing.new.disk) (d.state c.put_file.new.disk) (c.sync_standing.ensures.performs told)
    (c.in_ok-sync_standing.ensures.durable told)
    (rw (c.as_str.ensures.value, c.in_ok-temporary.ensures, c.as_str-2.ensures.value, c.in_ok-name.ensures) at
    c.put_file.ensures.performs told)

pub returns-in_err-sync_standing-clause-beside : goal.returns-in_err-sync_standing-clause-beside
returns-in_err-sync_standing-clause-beside g c told =
    let d = g.D.Disk in
    beside_same c.args.want.now c.args.lens.now (d.state c.args.disk.now) (d.state c.sync_standing.new.disk)
    (c.sync_standing.ensures.performs told)

pub returns-in_err-temporary-clause-beside : goal.returns-in_err-temporary-clause-beside
returns-in_err-temporary-clause-beside g c told =
    beside_none c.args.want.now c.args.lens.now (g.D.Disk.state c.args.disk.now)

pub returns-in_err-name-clause-beside : goal.returns-in_err-name-clause-beside
returns-in_err-name-clause-beside g c told =
    beside_none c.args.want.now c.args.lens.now (g.D.Disk.state c.args.disk.now)

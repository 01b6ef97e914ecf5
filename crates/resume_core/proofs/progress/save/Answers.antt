use Rattle.resume_core.proofs.TableSaves.{gives_throughout, give_acknowledged, sound_saving}
use Rattle.resume_core.proofs.progress.save.Goals as goal

pub returns-in_err-put_table-clause-gives : goal.returns-in_err-put_table-clause-gives
returns-in_err-put_table-clause-gives g c told =
    let d = g.D.Disk in
    gives_throughout c.args.want.now c.args.table.now c.control_files_are_read.ensures.back c.requires.want
    (d.state c.args.disk.now) (d.state c.put_table.new.disk) (c.requires.lengths told)
    (c.put_table.ensures.performs told)

pub returns-in_err-put_table-clause-sound : goal.returns-in_err-put_table-clause-sound
returns-in_err-put_table-clause-sound g c told =
    let d = g.D.Disk in
    sound_saving c.args.want.now c.args.table.now c.control_files_are_read.ensures.back c.requires.want
    (d.state c.args.disk.now) (d.state c.put_table.new.disk) (c.requires.lengths told)
    (c.put_table.ensures.performs told)

pub returns-clause-gives : goal.returns-clause-gives
returns-clause-gives g c told =
    let d = g.D.Disk in
    gives_throughout c.args.want.now c.args.table.now c.control_files_are_read.ensures.back c.requires.want
    (d.state c.args.disk.now) (d.state c.put_table.new.disk) (c.requires.lengths told)
    (c.put_table.ensures.performs told)

pub returns-clause-acknowledged : goal.returns-clause-acknowledged
returns-clause-acknowledged g c told =
    let d = g.D.Disk in
    give_acknowledged c.args.want.now c.args.table.now c.control_files_are_read.ensures.back c.requires.want
    (d.state c.args.disk.now) (d.state c.put_table.new.disk) (c.requires.lengths told)
    (c.put_table.ensures.performs told) (c.in_ok-put_table.ensures.saved told)

pub returns-clause-sound : goal.returns-clause-sound
returns-clause-sound g c told =
    let d = g.D.Disk in
    sound_saving c.args.want.now c.args.table.now c.control_files_are_read.ensures.back c.requires.want
    (d.state c.args.disk.now) (d.state c.put_table.new.disk) (c.requires.lengths told)
    (c.put_table.ensures.performs told)

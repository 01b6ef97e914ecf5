use Rattle.resume_core.proofs.Openings.{fit_besides, fit_sound, fit_given}
use Rattle.resume_core.proofs.opening.fit_held.Goals as goal

pub returns-clause-besides : goal.returns-clause-besides
returns-clause-besides g c told =
    let d = g.D.Disk in
    fit_besides c.args.want.now c.requires.want (d.state c.args.disk.now) (d.state c.fit_files.new.disk)
    (c.requires.held told) (rw c.as_str.ensures at c.fit_files.ensures.performs told)

pub returns-clause-sound : goal.returns-clause-sound
returns-clause-sound g c told =
    let d = g.D.Disk in
    fit_sound c.args.want.now c.requires.want (d.state c.args.disk.now) (d.state c.fit_files.new.disk)
    (c.requires.held told) (rw c.as_str.ensures at c.fit_files.ensures.performs told)

pub returns-clause-gives : goal.returns-clause-gives
returns-clause-gives g c told =
    let d = g.D.Disk in
    fit_given c.args.want.now c.requires.want (d.state c.args.disk.now) (d.state c.fit_files.new.disk)
    (c.requires.held told) (rw c.as_str.ensures at c.fit_files.ensures.performs told)

use Rattle.std.proofs.Common.{◌∙◌}
use Rattle.resume_core.proofs.Beside.{beside_none}
use Rattle.resume_core.proofs.Openings.{sound_none, put_payload, put_besides, put_sound, held_put}
use Rattle.resume_core.proofs.Savings.{ok_both}
use Rattle.resume_core.proofs.holding.put_empty.Goals as goal

pub returns-in_err-control-clause-sound : goal.returns-in_err-control-clause-sound
returns-in_err-control-clause-sound g c told = sound_none c.args.want.now (g.D.Disk.state c.args.disk.now)

pub returns-in_err-bytes-clause-sound : goal.returns-in_err-bytes-clause-sound
returns-in_err-bytes-clause-sound g c told = sound_none c.args.want.now (g.D.Disk.state c.args.disk.now)

pub returns-clause-held : goal.returns-clause-held
returns-clause-held g c =
    ok_both c.put_beside.result
    (λ put durable told. held_put c.args.want.now (g.D.Disk.state c.put_beside.new.disk) _ (put told) (durable told))
    c.put_beside.ensures.put c.put_beside.ensures.durable

pub returns-clause-payload : goal.returns-clause-payload
returns-clause-payload g c told =
    let d = g.D.Disk in
    put_payload c.args.want.now c.control_files_are_read.ensures.back c.requires.want c.in_ok-control.control
    c.in_ok-control.ensures
    (d.state c.args.disk.now) (d.state c.put_beside.new.disk)
    (rw (c.deref.ensures.value ∙ c.in_ok-bytes.ensures.spelled) at c.put_beside.ensures.performs told)

pub returns-clause-besides : goal.returns-clause-besides
returns-clause-besides g c told =
    let d = g.D.Disk in
    put_besides c.args.want.now c.control_files_are_read.ensures.back c.requires.want c.in_ok-control.control
    c.in_ok-control.ensures
    (d.state c.args.disk.now) (d.state c.put_beside.new.disk)
    (rw (c.deref.ensures.value ∙ c.in_ok-bytes.ensures.spelled) at c.put_beside.ensures.performs told)

pub returns-clause-sound : goal.returns-clause-sound
returns-clause-sound g c told =
    let d = g.D.Disk in
    put_sound c.args.want.now c.control_files_are_read.ensures.back c.requires.want c.in_ok-control.control
    c.in_ok-control.ensures
    (d.state c.args.disk.now) (d.state c.put_beside.new.disk)
    (rw (c.deref.ensures.value ∙ c.in_ok-bytes.ensures.spelled) at c.put_beside.ensures.performs told)

pub returns-in_err-control-clause-beside : goal.returns-in_err-control-clause-beside
returns-in_err-control-clause-beside g c told =
    beside_none c.args.want.now c.args.lens.now (g.D.Disk.state c.args.disk.now)

pub returns-in_err-bytes-clause-beside : goal.returns-in_err-bytes-clause-beside
returns-in_err-bytes-clause-beside g c told =
    beside_none c.args.want.now c.args.lens.now (g.D.Disk.state c.args.disk.now)

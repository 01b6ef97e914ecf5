use Rattle.resume_core.proofs.Apart.{temporary_apart}
use Rattle.resume_core.proofs.Savings.{performs_secured, performs_saved, are_saved, unmade_after, ok_both}
use Rattle.resume_core.proofs.control_files.sync_and_put.Goals as goal

pub put_file-requires : goal.put_file-requires
put_file-requires g c = rw (c.requires.temporary, c.requires.name) (temporary_apart c.args.want.now)

pub returns-in_err-sync_files-clause-performs : goal.returns-in_err-sync_files-clause-performs
returns-in_err-sync_files-clause-performs g c told =
    let d = g.D.Disk in
    performs_secured c.args.want.now c.args.bytes.now (d.state c.args.disk.now) (d.state c.sync_files.new.disk)
    (c.sync_files.ensures.performs told)

pub returns-clause-performs : goal.returns-clause-performs
returns-clause-performs g c told =
    let d = g.D.Disk in
    performs_saved c.args.want.now c.args.bytes.now c.requires.want (d.state c.args.disk.now)
    (d.state c.sync_files.new.disk) (d.state c.put_file.new.disk) (c.sync_files.ensures.performs told)
    (rw c.as_str.ensures at c.in_ok-sync_files.ensures.durable told)
    (rw (c.requires.temporary, c.requires.name) at c.put_file.ensures.performs told)

pub returns-clause-unmade : goal.returns-clause-unmade
returns-clause-unmade g c none told =
    let d = g.D.Disk in
    unmade_after _ (d.state c.args.disk.now) (d.state c.sync_files.new.disk) (d.state c.put_file.new.disk)
    (c.sync_files.ensures.stays told) (rw c.requires.temporary at c.put_file.ensures.unmade none told)

pub returns-clause-saved : goal.returns-clause-saved
returns-clause-saved g c =
    let d = g.D.Disk in
    ok_both c.put_file.result
    (λ put durable told. are_saved c.args.want.now c.args.bytes.now c.requires.want (d.state c.args.disk.now)
    (d.state c.sync_files.new.disk) (d.state c.put_file.new.disk) (c.sync_files.ensures.performs told)
    (rw c.as_str.ensures at c.in_ok-sync_files.ensures.durable told)
    (rw (c.requires.temporary, c.requires.name) at c.put_file.ensures.performs told)
    (rw c.requires.name at durable told) (rw c.requires.name at put told))
    c.put_file.ensures.put c.put_file.ensures.durable

use Rattle.std.proofs.Common.{◌∙◌}
use Rattle.std.proofs.lemmas.Result.{on_ok_weaker}
use Rattle.resume_core.proofs.Wholes.{whole_file, performs_change, performs_two, performs_sync}
use Rattle.resume_core.proofs.whole_files.write_whole.Goals as goal

pub returns-in_err-set_len-clause-performs : goal.returns-in_err-set_len-clause-performs
returns-in_err-set_len-clause-performs g c told =
    let d = g.D.Disk in
    performs_change c.args.name.now _ (d.state c.args.disk.now) (d.state c.set_len.new.self) c.set_len.result
    (c.set_len.ensures.alters told)

pub returns-in_err-write_at-clause-performs : goal.returns-in_err-write_at-clause-performs
returns-in_err-write_at-clause-performs g c told =
    let d = g.D.Disk in
    performs_two c.args.name.now (d.state c.args.disk.now) (d.state c.set_len.new.self) (d.state c.write_at.new.self)
    (performs_change c.args.name.now _ (d.state c.args.disk.now) (d.state c.set_len.new.self) c.set_len.result
    (c.set_len.ensures.alters told))
    (performs_change c.args.name.now _ (d.state c.set_len.new.self) (d.state c.write_at.new.self) c.write_at.result
    (c.write_at.ensures.alters told))

pub returns-clause-performs : goal.returns-clause-performs
returns-clause-performs g c told =
    let d = g.D.Disk in
    performs_two c.args.name.now (d.state c.args.disk.now) (d.state c.write_at.new.self) (d.state c.sync.new.self)
    (performs_two c.args.name.now (d.state c.args.disk.now) (d.state c.set_len.new.self) (d.state c.write_at.new.self)
    (performs_change c.args.name.now _ (d.state c.args.disk.now) (d.state c.set_len.new.self) c.set_len.result
    (c.set_len.ensures.alters told))
    (performs_change c.args.name.now _ (d.state c.set_len.new.self) (d.state c.write_at.new.self) c.write_at.result
    (c.write_at.ensures.alters told)))
    (performs_sync c.args.name.now (d.state c.write_at.new.self) (d.state c.sync.new.self) c.sync.result
    (c.sync.ensures.looks told))

pub returns-clause-written : goal.returns-clause-written
returns-clause-written g c =
    let d = g.D.Disk in
    on_ok_weaker c.sync.result
    (λ durable told. (c.sync.ensures.looks told).stays.seen c.args.name.now
    ∙ whole_file (d.state c.args.disk.now).seen (d.state c.set_len.new.self).seen
    (d.state c.write_at.new.self).seen c.args.name.now c.args.bytes.now
    (c.in_ok-set_len.ensures.resized told) (c.in_ok-write_at.ensures.written told))
    c.sync.ensures.durable

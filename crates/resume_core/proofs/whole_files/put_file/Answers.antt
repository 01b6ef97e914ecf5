use Rattle.std.proofs.Common.{◌∙◌}
use Rattle.std.proofs.lemmas.Result.{on_ok_weaker}
use Rattle.dl_disk.specs.Passes.{image_before}
use Rattle.resume_core.specs.Steps.{SameBut}
use Rattle.resume_core.proofs.Puts.{performs_put, put_durable}
use Rattle.resume_core.proofs.whole_files.put_file.Goals as goal

pub returns-clause-performs : goal.returns-clause-performs
returns-clause-performs g c told =
    let d = g.D.Disk in
    performs_put c.args.temporary.now c.args.name.now c.args.bytes.now c.requires
    (d.state c.args.disk.now) (d.state c.write_whole.new.disk) (d.state c.replace.new.self) c.replace.result
    (c.write_whole.ensures.performs told) (c.in_ok-write_whole.ensures.written told)
    (c.in_ok-write_whole.ensures.durable told) (c.replace.ensures.alters told)

pub returns-clause-durable : goal.returns-clause-durable
returns-clause-durable g c =
    let d = g.D.Disk in
    on_ok_weaker c.replace.result
    (λ moved told. put_durable c.args.temporary.now c.args.name.now c.args.bytes.now c.requires
    (d.state c.args.disk.now) (d.state c.write_whole.new.disk) (d.state c.replace.new.self) c.replace.result
    (c.write_whole.ensures.performs told) (c.in_ok-write_whole.ensures.written told)
    (c.in_ok-write_whole.ensures.durable told) (c.replace.ensures.alters told)
    (moved told))
    c.replace.ensures.moved

pub returns-clause-put : goal.returns-clause-put
returns-clause-put g c =
    on_ok_weaker c.replace.result
    (λ moved told. (moved told).seen.here ∙ c.in_ok-write_whole.ensures.written told)
    c.replace.ensures.moved

pub returns-clause-unmade : goal.returns-clause-unmade
returns-clause-unmade g c none told image left =
    let d = g.D.Disk in
    image_before (SameBut c.args.temporary.now) (d.state c.args.disk.now) (d.state c.write_whole.new.disk)
    (c.write_whole.ensures.performs told).passes
    image (((c.replace.ensures.alters told).none none).images image left)

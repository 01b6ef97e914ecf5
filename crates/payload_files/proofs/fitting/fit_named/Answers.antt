use Rattle.std.proofs.Common.{refl}
use Rattle.dl_disk.specs.Files.{IsSame, TornResize}
use Rattle.dl_disk.specs.Passes.{performs_on, performs_look, performs_alters}
use Rattle.payload_files.proofs.Lengths.{resize_none, resize_behind}
use Rattle.payload_files.proofs.fitting.fit_named.Goals as goal

pub returns-clause-performs : goal.returns-clause-performs
returns-clause-performs g c told =
    let d = g.D.Disk in
    let step = TornResize c.args.name.now c.args.len in
    performs_on IsSame step step (d.state c.args.disk.now) (d.state c.len.new.self) (d.state c.set_len.new.self)
    (resize_none c.args.name.now c.args.len) (resize_behind c.args.name.now c.args.len)
    (performs_look (d.state c.args.disk.now) (d.state c.len.new.self) c.len.result (c.len.ensures.looks told))
    (performs_alters step (d.state c.len.new.self) (d.state c.set_len.new.self) c.set_len.result
    (λ files. resize_none c.args.name.now c.args.len files files (λ name. refl)) (c.set_len.ensures.alters told))

use Rattle.std.proofs.Common.{◌∙◌}
use Rattle.dl_disk.specs.Files.{IsSame}
use Rattle.dl_disk.specs.Passes.{performs_more}
use Rattle.resume_core.proofs.Beside.{lasts_more}
use Rattle.resume_core.proofs.holding.sync_standing.Goals as goal

pub returns-in_err-sync_one-clause-performs : goal.returns-in_err-sync_one-clause-performs
returns-in_err-sync_one-clause-performs g c told =
    let d = g.D.Disk in
    performs_more IsSame (d.state c.args.disk.now) (d.state c.loop-index.disk) (d.state c.sync_one.new.disk)
    (λ x y z one two name. two name ∙ one name)
    (c.loop-index.invariant.performs told) (c.sync_one.ensures.performs told)

pub loop-index-preserved : goal.loop-index-preserved
loop-index-preserved g c =
    let d = g.D.Disk in
    record {
      durable = λ told k below. lasts_more c.args.want.now c.args.lens.now c.loop-index.index
          (d.state c.loop-index.disk) (d.state c.sync_one.new.disk) (c.sync_one.ensures.performs told)
          (c.loop-index.invariant.durable told) (c.in_ok-sync_one.ensures.durable told) k below;
      performs = λ told. performs_more IsSame (d.state c.args.disk.now) (d.state c.loop-index.disk)
          (d.state c.sync_one.new.disk) (λ x y z one two name. two name ∙ one name)
          (c.loop-index.invariant.performs told) (c.sync_one.ensures.performs told);
      folders = λ told. c.sync_one.ensures.folders told ∙ c.loop-index.invariant.folders told;
      faults = c.in_ok-sync_one.ensures.cause.done ∙ c.loop-index.invariant.faults;
    }

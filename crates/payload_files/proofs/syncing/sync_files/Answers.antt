use Rattle.std.proofs.Common.{◌∙◌, refl, arith, subst, List}
use Rattle.std.proofs.lemmas.List.{take_all}
use Rattle.dl_disk.specs.Files.{IsSame}
use Rattle.dl_disk.specs.Passes.{performs_none}
use Rattle.span_map.specs.declared.files.FileLen.{FileLen}
use Rattle.payload_files.specs.Payload.{AreDurable}
use Rattle.payload_files.proofs.Keeping.{durable_more, stays_none, stays_on, same_on}
use Rattle.payload_files.proofs.syncing.sync_files.Goals as goal

pub loop-file-init : goal.loop-file-init
loop-file-init g c = record {
  durable = λ told image left k d within. absurd (omega (arith, within));
  stays = λ told. stays_none (g.D.Disk.state c.args.disk.now);
  performs = λ told. performs_none IsSame (g.D.Disk.state c.args.disk.now) (λ files name. refl);
  folders = λ told. refl;
  faults = refl;
}

pub loop-file-preserved : goal.loop-file-preserved
loop-file-preserved g c =
    let d = g.D.Disk in
    let before = c.loop-file.invariant in
    record {
      durable = λ told. durable_more c.args.dir.now c.files-file-items.result.now c.loop-file.file-index c.file-item.result c.loop-file-test.true c.file-item.is
          (d.state c.loop-file.disk) (d.state c.sync_file.new.disk) (c.sync_file.ensures.stays told) (before.durable told) (c.in_ok-sync_file.ensures.durable told);
      stays = λ told. stays_on (d.state c.args.disk.now) (d.state c.loop-file.disk) (d.state c.sync_file.new.disk) (before.stays told) (c.sync_file.ensures.stays told);
      performs = λ told. same_on (d.state c.args.disk.now) (d.state c.loop-file.disk) (d.state c.sync_file.new.disk) (before.performs told) (c.sync_file.ensures.performs told);
      folders = λ told. c.sync_file.ensures.folders told ∙ before.folders told;
      faults = c.in_ok-sync_file.ensures.cause.done ∙ before.faults;
    }

pub returns-clause-durable : goal.returns-clause-durable
returns-clause-durable g c told =
    subst (λ (l : List FileLen). AreDurable c.args.dir.now l (g.D.Disk.state c.loop-file.disk))
    (take_all c.loop-file.file-index c.files-file-items.result.now c.loop-file-test.false ∙ c.files-file-items.ensures.value) (c.loop-file.invariant.durable told)

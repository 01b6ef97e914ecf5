use Rattle.std.proofs.Common.{◌∙◌, subst, List, refl, arith}
use Rattle.std.proofs.lemmas.List.{take_all}
use Rattle.dl_disk.specs.Files.{IsSame}
use Rattle.dl_disk.specs.Passes.{performs_none}
use Rattle.span_map.specs.declared.files.FileLen.{FileLen}
use Rattle.payload_files.specs.Names.{HasFolders}
use Rattle.payload_files.proofs.Keeping.{folders_more, made_more, made_none, same_on}
use Rattle.payload_files.proofs.folders.make_each.Goals as goal

pub loop-file-init : goal.loop-file-init
loop-file-init g c = record {
  last = λ told. tt;
  made = λ told k d within. absurd (omega (arith, within));
  stay = λ told folder has. has;
  only = λ told. made_none c.args.dir.now c.args.files.now (g.D.Disk.state c.args.disk.now).folders
      (g.D.Disk.state c.args.disk.now).folders refl;
  performs = λ told. performs_none IsSame (g.D.Disk.state c.args.disk.now) (λ files name. refl);
  faults = refl;
}

pub loop-file-preserved : goal.loop-file-preserved
loop-file-preserved g c =
    let d = g.D.Disk in
    let before = c.loop-file.invariant in
    record {
      last = c.in_ok-last.ensures.last;
      made = λ told. folders_more c.args.dir.now c.args.files.now c.loop-file.file-index c.file-item.result c.loop-file-test.true c.file-item.is
          (d.state c.loop-file.disk).folders (d.state c.make_folder.new.disk).folders
          (c.make_folder.ensures.stay told) (before.made told) (c.in_ok-last.ensures.made told);
      stay = λ told folder has. c.make_folder.ensures.stay told folder (before.stay told folder has);
      only = λ told. made_more c.args.dir.now c.args.files.now c.loop-file.file-index c.file-item.result
          c.loop-file-test.true c.file-item.is (d.state c.args.disk.now).folders
          (d.state c.loop-file.disk).folders (d.state c.make_folder.new.disk).folders
          (before.only told) (c.make_folder.ensures.only told);
      performs = λ told. same_on (d.state c.args.disk.now) (d.state c.loop-file.disk) (d.state c.make_folder.new.disk)
          (before.performs told) (c.make_folder.ensures.performs told);
      faults = c.in_ok-last.ensures.cause.done ∙ before.faults;
    }

pub returns-clause-folders : goal.returns-clause-folders
returns-clause-folders g c told =
    subst (λ (l : List FileLen). HasFolders c.args.dir.now l (g.D.Disk.state c.loop-file.disk).folders)
    (take_all c.loop-file.file-index c.args.files.now c.loop-file-test.false) (c.loop-file.invariant.made told)

pub returns-in_err-last-clause-performs : goal.returns-in_err-last-clause-performs
returns-in_err-last-clause-performs g c told =
    let d = g.D.Disk in
    same_on (d.state c.args.disk.now) (d.state c.loop-file.disk) (d.state c.make_folder.new.disk) (c.loop-file.invariant.performs told) (c.make_folder.ensures.performs told)

pub returns-in_err-last-clause-only : goal.returns-in_err-last-clause-only
returns-in_err-last-clause-only g c told =
    let d = g.D.Disk in
    made_more c.args.dir.now c.args.files.now c.loop-file.file-index c.file-item.result c.loop-file-test.true
    c.file-item.is (d.state c.args.disk.now).folders (d.state c.loop-file.disk).folders
    (d.state c.make_folder.new.disk).folders (c.loop-file.invariant.only told) (c.make_folder.ensures.only told)

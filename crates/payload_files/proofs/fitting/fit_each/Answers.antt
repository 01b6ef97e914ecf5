use Rattle.std.proofs.Common.{◌≡◌, ◌∙◌, ℕ, ◌+◌, ◌<◌, List, [], ◌∷◌, length, take, get_or, refl, arith}
use Rattle.dl_disk.specs.State.{DiskState}
use Rattle.dl_disk.specs.Passes.{Performs, performs_none, performs_on, performs_wider}
use Rattle.span_map.specs.Layout.{IsLayout}
use Rattle.span_map.specs.declared.files.FileLen.{FileLen}
use Rattle.payload_files.specs.Changes.{Stretches}
use Rattle.payload_files.proofs.Lengths.{alone_more, alone_of_front, resized_more, stretches_none, stretches_more, stretches_of_front}
use Rattle.payload_files.proofs.fitting.fit_each.Goals as goal

-- one file more
more : (dir : List ℕ) (files : List FileLen) → IsLayout files → (k : ℕ) (file : FileLen) → k < length files → file ≡ get_or files k file
    → (a b c : DiskState) → Performs (Stretches dir (take k files)) a b → Performs (Stretches dir (file ∷ [])) b c → Performs (Stretches dir (take (k + 1) files)) a c
more dir files layout k file within is a b c front one =
    performs_on (Stretches dir (take k files)) (Stretches dir (file ∷ [])) (Stretches dir (take (k + 1) files)) a b c
    (λ x y first. stretches_more dir files layout k file within is x y y first (stretches_none dir (file ∷ []) y))
    (stretches_more dir files layout k file within is) front one

pub loop-file-init : goal.loop-file-init
loop-file-init g c = record {
  resized = λ told k d within. absurd (omega (arith, within));
  performs = λ told. performs_none (Stretches c.args.dir.now (take 0 c.args.files.now)) (g.D.Disk.state c.args.disk.now) (stretches_none c.args.dir.now (take 0 c.args.files.now));
  alone = λ told j d within. absurd (omega (arith, within));
  folders = λ told. refl;
  faults = refl;
}

pub loop-file-preserved : goal.loop-file-preserved
loop-file-preserved g c =
    let d = g.D.Disk in
    let dir = c.args.dir.now in
    let files = c.args.files.now in
    let k = c.loop-file.file-index in
    let file = c.file-item.result in
    let before = c.loop-file.invariant in
    let start = d.state c.args.disk.now in
    let middle = d.state c.loop-file.disk in
    let end = d.state c.fit_file.new.disk in
    record {
      resized = λ told. resized_more dir files c.requires k file c.loop-file-test.true c.file-item.is start.seen middle.seen end.seen
          (before.resized told) (before.performs told).seen.others (c.in_ok-fit_file.ensures.resized told) (c.fit_file.ensures.performs told).seen.others;
      performs = λ told. more dir files c.requires k file c.loop-file-test.true c.file-item.is start middle end (before.performs told) (c.fit_file.ensures.performs told);
      alone = λ told. alone_more dir files c.requires k file c.loop-file-test.true c.file-item.is start middle end
          (before.performs told) (c.fit_file.ensures.performs told) (before.alone told) (c.fit_file.ensures.alone told);
      folders = λ told. c.fit_file.ensures.folders told ∙ before.folders told;
      faults = c.in_ok-fit_file.ensures.cause.done ∙ before.faults;
    }

pub returns-in_err-fit_file-clause-performs : goal.returns-in_err-fit_file-clause-performs
returns-in_err-fit_file-clause-performs g c told =
    let d = g.D.Disk in
    let dir = c.args.dir.now in
    let files = c.args.files.now in
    let k = c.loop-file.file-index in
    let start = d.state c.args.disk.now in
    let end = d.state c.fit_file.new.disk in
    performs_wider (Stretches dir (take (k + 1) files)) (Stretches dir files) start end (stretches_of_front dir files c.requires (k + 1))
    (more dir files c.requires k c.file-item.result c.loop-file-test.true c.file-item.is start (d.state c.loop-file.disk) end
    (c.loop-file.invariant.performs told) (c.fit_file.ensures.performs told))

pub returns-in_err-fit_file-clause-alone : goal.returns-in_err-fit_file-clause-alone
returns-in_err-fit_file-clause-alone g c told =
    let d = g.D.Disk in
    let dir = c.args.dir.now in
    let files = c.args.files.now in
    let k = c.loop-file.file-index in
    let file = c.file-item.result in
    let start = d.state c.args.disk.now in
    let middle = d.state c.loop-file.disk in
    let end = d.state c.fit_file.new.disk in
    let before = c.loop-file.invariant in
    alone_of_front dir files c.requires (k + 1) start end
    (more dir files c.requires k file c.loop-file-test.true c.file-item.is start middle end
    (before.performs told) (c.fit_file.ensures.performs told))
    (alone_more dir files c.requires k file c.loop-file-test.true c.file-item.is start middle end
    (before.performs told) (c.fit_file.ensures.performs told) (before.alone told) (c.fit_file.ensures.alone told))

use Rattle.std.proofs.Common.{◌≡◌, ◌∙◌, ap, ℕ, length, arith}
use Rattle.std.specs.List.{sum_by}
use Rattle.dl_disk.specs.Passes.{performs_on}
use Rattle.span_map.specs.Slices.{slice_of}
use Rattle.span_map.specs.declared.files.Part.{Part}
use Rattle.payload_files.specs.Changes.{TornSlice}
use Rattle.payload_files.proofs.SliceSteps.{next_sum, next_fits, next_torn, next_written, torn_wider}
use Rattle.payload_files.proofs.writing.write_slice.Goals as goal

abbrev first_of : Part
first_of = record { file = 0; at = 0; len = 0 }

abbrev len_of : Part → ℕ
len_of part = part.len

pub loop-part-preserved : goal.loop-part-preserved
loop-part-preserved g c =
    let d = g.D.Disk in
    let dir = c.args.dir.now in
    let files = c.args.layout.now in
    let bytes = c.args.bytes.now in
    let parts = c.deref-part-items.result.now in
    let slice : parts ≡ slice_of files c.args.at (length bytes) = c.deref-part-items.ensures.value ∙ c.in_ok-parts.ensures.parts in
    let sum : sum_by len_of parts ≡ length bytes = ap (sum_by len_of) c.deref-part-items.ensures.value ∙ c.in_ok-parts.ensures.len in
    let k = c.loop-part.part-index in
    let was = c.loop-part.invariant in
    let so_far = c.loop-part.written in
    let start = d.state c.args.disk.now in
    let before = d.state c.loop-part.disk in
    let after = d.state c.write_part.new.disk in
    record {
      sum = next_sum dir files c.args.at bytes parts slice sum k first_of c.loop-part-test.true so_far was.sum;
      made = λ told has. next_written dir files c.args.at bytes parts slice sum k first_of c.loop-part-test.true so_far was.sum start.seen before.seen after.seen
          c.requires has (was.performs told).seen (was.made told) (c.in_ok-write_part.ensures.written told);
      performs = λ told. performs_on (TornSlice dir files c.args.at so_far) _ _ start before after
          (λ x y torn. torn_wider dir files c.args.at so_far _ x y (omega arith) torn)
          (next_torn dir files c.args.at bytes parts slice sum k first_of c.loop-part-test.true so_far was.sum)
          (was.performs told) (c.write_part.ensures.performs told);
      folders = λ told. c.write_part.ensures.folders told ∙ was.folders told;
      faults = c.in_ok-write_part.ensures.cause.done ∙ was.faults;
    }

pub returns-in_err-write_part-clause-performs : goal.returns-in_err-write_part-clause-performs
returns-in_err-write_part-clause-performs g c told =
    let d = g.D.Disk in
    let dir = c.args.dir.now in
    let files = c.args.layout.now in
    let bytes = c.args.bytes.now in
    let parts = c.deref-part-items.result.now in
    let slice : parts ≡ slice_of files c.args.at (length bytes) = c.deref-part-items.ensures.value ∙ c.in_ok-parts.ensures.parts in
    let sum : sum_by len_of parts ≡ length bytes = ap (sum_by len_of) c.deref-part-items.ensures.value ∙ c.in_ok-parts.ensures.len in
    let k = c.loop-part.part-index in
    let was = c.loop-part.invariant in
    let so_far = c.loop-part.written in
    let fits = next_fits dir files c.args.at bytes parts slice sum k first_of c.loop-part-test.true so_far was.sum in
    performs_on (TornSlice dir files c.args.at so_far) _ (TornSlice dir files c.args.at (length bytes))
    (d.state c.args.disk.now) (d.state c.loop-part.disk) (d.state c.write_part.new.disk)
    (λ x y torn. torn_wider dir files c.args.at so_far (length bytes) x y (omega (arith, fits)) torn)
    (λ x y z one two. torn_wider dir files c.args.at _ (length bytes) x z fits
    (next_torn dir files c.args.at bytes parts slice sum k first_of c.loop-part-test.true so_far was.sum x y z one two))
    (was.performs told) (c.write_part.ensures.performs told)

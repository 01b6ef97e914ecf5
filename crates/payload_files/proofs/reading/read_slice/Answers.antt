use Rattle.std.proofs.Common.{◌≡◌, ◌∙◌, ℕ, ◌+◌, ◌-◌, ap, sym, drop, length, length-take, length-drop, get_or, arith}
use Rattle.std.proofs.lemmas.List.{take_all}
use Rattle.std.specs.List.{sum_by}
use Rattle.span_map.specs.Slices.{slice_of}
use Rattle.span_map.specs.declared.files.Part.{Part}
use Rattle.payload_files.specs.Payload.{contents_in}
use Rattle.payload_files.specs.Reading.{ReadsPart}
use Rattle.std.specs.Prelude.{IsTrue}
use Rattle.payload_files.proofs.SliceSteps.{next_sum, next_fits}
use Rattle.payload_files.proofs.ReadSteps.{reads_on, part_before, slice_read, next_within, next_bytes, all_read}
use Rattle.payload_files.proofs.reading.read_slice.Goals as goal

abbrev first_of : Part
first_of = record { file = 0; at = 0; len = 0 }

abbrev len_of : Part → ℕ
len_of part = part.len

pub loop-part-preserved : goal.loop-part-preserved
loop-part-preserved g c =
    let d = g.D.Disk in
    let dir = c.args.dir.now in
    let files = c.args.layout.now in
    let parts = c.deref-part-items.result.now in
    let into = c.loop-part.into in
    let k = c.loop-part.part-index in
    let was = c.loop-part.invariant in
    let done = c.loop-part.read in
    let start = d.state c.args.disk.now in
    let before = d.state c.loop-part.disk in
    let after = d.state c.read_part.new.disk in
    let bytes = c.read_part.new.into in
    let contents = contents_in dir files start.seen in
    let part = get_or parts k first_of in
    let slice : parts ≡ slice_of files c.args.at (length c.args.into.now) =
    c.deref-part-items.ensures.value ∙ c.in_ok-parts.ensures.parts in
    let sum : sum_by len_of parts ≡ length c.args.into.now =
    ap (sum_by len_of) c.deref-part-items.ensures.value ∙ c.in_ok-parts.ensures.len in
    let inside = c.loop-part-test.true in
    let fits = next_fits dir files c.args.at c.args.into.now parts slice sum k first_of inside done was.sum in
    let size : length bytes ≡ part.len =
    omega (
      arith,
      fits,
      c.loop-part.auto.into,
      c.read_part.auto.into,
      length-take (done + part.len - done) (drop done into),
      length-drop done into,
    ) in
    let read : IsTrue d.tells → ReadsPart contents part bytes =
    λ told. part_before dir files start.seen before.seen part bytes (was.looks told).stays.seen
    (c.in_ok-read_part.ensures.read told) in
    record {
      sum = next_sum dir files c.args.at c.args.into.now parts slice sum k first_of inside done was.sum;
      within = λ told. next_within contents parts k first_of inside bytes (was.within told) (read told);
      bytes = λ told. next_bytes contents parts k first_of inside into bytes done
          (omega (arith, fits, c.loop-part.auto.into)) size
          (was.bytes told) (read told);
      looks = λ told. reads_on dir files start before after (was.looks told) (c.read_part.ensures.looks told);
      faults = c.in_ok-read_part.ensures.cause.done ∙ was.faults;
    }

pub returns-clause-slice : goal.returns-clause-slice
returns-clause-slice g c told =
    let files = c.args.layout.now in
    let seen = (g.D.Disk.state c.args.disk.now).seen in
    let into = c.loop-part.into in
    let was = c.loop-part.invariant in
    let slice : c.deref-part-items.result.now ≡ slice_of files c.args.at (length into) =
    c.deref-part-items.ensures.value ∙ c.in_ok-parts.ensures.parts
    ∙ ap (slice_of files c.args.at) (sym c.loop-part.auto.into) in
    let full : c.loop-part.read ≡ length c.args.into.now =
    was.sum
    ∙ ap (sum_by len_of)
    (take_all c.loop-part.part-index c.deref-part-items.result.now c.loop-part-test.false
    ∙ c.deref-part-items.ensures.value)
    ∙ c.in_ok-parts.ensures.len in
    slice_read c.args.dir.now files seen c.args.at into c.parts_hold_slices.ensures
    (all_read files (contents_in c.args.dir.now files seen) c.args.at c.deref-part-items.result.now into
    c.loop-part.part-index c.loop-part.read slice c.loop-part-test.false
    (omega (arith, full, c.loop-part.auto.into)) (was.within told) (was.bytes told))

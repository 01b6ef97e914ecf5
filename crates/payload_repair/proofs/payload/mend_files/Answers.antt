use Rattle.std.proofs.Common.{◌∙◌, ap, sym, subst, ◌+◌, length, take, arith, refl}
use Rattle.std.specs.Prelude.{option_map}
use Rattle.std.proofs.lemmas.List.{take_all}
use Rattle.meta_v2.specs.Sound.{all_bytes, all_pieces}
use Rattle.payload_repair.specs.Counting.{AreOf, plus}
use Rattle.payload_repair.specs.Whole.{counts_of_files}
use Rattle.payload_repair.specs.declared.counts.Counts.{Counts}
use Rattle.payload_repair.proofs.WholeLemmas.{at_item, sound_at, few_at, bounded_at, are_of_next, small_next, file_apart, counts_here, counts_more_files, changes_more, repaired_more, changes_none, changes_among}
use Rattle.payload_repair.proofs.payload.mend_files.Goals as goal

pub mend_file-requires-clause-file : goal.mend_file-requires-clause-file
mend_file-requires-clause-file g c lifetimes bounds =
    sound_at c.args.meta.now c.requires.sound c.loop-file.file-index c.file-item.result
    (at_item c.as_slice-file-items.result.now c.args.meta.now.files c.loop-file.file-index c.file-item.result c.as_slice-file-items.ensures c.loop-file-test.true c.file-item.is)

pub mend_file-requires-clause-few : goal.mend_file-requires-clause-few
mend_file-requires-clause-few g c lifetimes bounds =
    few_at c.args.meta.now c.requires.sound c.loop-file.file-index c.file-item.result
    (at_item c.as_slice-file-items.result.now c.args.meta.now.files c.loop-file.file-index c.file-item.result c.as_slice-file-items.ensures c.loop-file-test.true c.file-item.is)

pub mend_file-requires-clause-bounded : goal.mend_file-requires-clause-bounded
mend_file-requires-clause-bounded g c lifetimes bounds =
    bounded_at c.args.meta.now c.requires.sound c.loop-file.file-index c.file-item.result
    (at_item c.as_slice-file-items.result.now c.args.meta.now.files c.loop-file.file-index c.file-item.result c.as_slice-file-items.ensures c.loop-file-test.true c.file-item.is)

pub plus-counts-requires : goal.plus-counts-requires
plus-counts-requires g c =
    small_next c.args.meta.now c.requires.sound c.loop-file.file-index c.file-item.result
    (at_item c.as_slice-file-items.result.now c.args.meta.now.files c.loop-file.file-index c.file-item.result c.as_slice-file-items.ensures c.loop-file-test.true c.file-item.is)
    c.loop-file.counts c.in_ok-found.found c.loop-file.invariant.bounded c.in_ok-found.ensures.bounded

pub loop-file-init : goal.loop-file-init
loop-file-init g c = record {
  counts = λ told apart. c.none-counts.ensures;
  bounded = subst (AreOf 0 0) (sym c.none-counts.ensures) (record { pieces = refl; each = omega arith; blocks = omega arith });
  repaired = λ told apart k file before. absurd (omega (arith, before));
  changes = λ told apart. changes_none c.args.meta.now.piece_len c.args.dir.now (option_map (λ folder. folder.now) c.args.copy) c.args.meta.now.files (g.D.Disk.state c.args.disk.now);
  faults = refl;
}

pub loop-file-preserved : goal.loop-file-preserved
loop-file-preserved g c =
    let d = g.D.Disk in
    let meta = c.args.meta.now in
    let dir = c.args.dir.now in
    let copy = option_map (λ folder. folder.now) c.args.copy in
    let files = meta.files in
    let k = c.loop-file.file-index in
    let file = c.file-item.result in
    let was = c.loop-file.invariant in
    let start = d.state c.args.disk.now in
    let now = d.state c.loop-file.disk in
    let new = d.state c.mend_file.new.disk in
    let found = c.in_ok-found.found in
    let at_k = at_item c.as_slice-file-items.result.now files k file c.as_slice-file-items.ensures c.loop-file-test.true c.file-item.is in
    record {
      counts = λ told apart.
          c.plus-counts.ensures
          ∙ ap (λ (x : Counts). plus x found) (was.counts told apart)
          ∙ ap (plus (counts_of_files meta.piece_len dir copy start.seen (take k files)))
          (c.in_ok-found.ensures.counts told (file_apart dir files k file at_k copy apart)
          ∙ counts_here meta.piece_len dir copy files c.requires.names k file at_k start now new apart (was.changes told apart))
          ∙ counts_more_files meta.piece_len dir copy start.seen files k file at_k;
      bounded = subst (AreOf (all_pieces meta.piece_len (take (k + 1) files)) (all_bytes (take (k + 1) files))) (sym c.plus-counts.ensures)
          (are_of_next meta k file at_k c.loop-file.counts found was.bounded c.in_ok-found.ensures.bounded);
      repaired = λ told apart. repaired_more meta.piece_len dir copy files c.requires.names k file at_k start now new apart (was.changes told apart)
          (c.mend_file.ensures.changes told (file_apart dir files k file at_k copy apart)) (was.repaired told apart) (c.in_ok-found.ensures.repaired told (file_apart dir files k file at_k copy apart));
      changes = λ told apart. changes_more meta.piece_len dir copy files c.requires.names k file at_k start now new apart (was.changes told apart)
          (c.mend_file.ensures.changes told (file_apart dir files k file at_k copy apart)) (omega (arith, c.requires.sound.piece_len.least));
      faults = c.in_ok-found.ensures.cause.done ∙ was.faults;
    }

pub returns-in_err-found-clause-changes : goal.returns-in_err-found-clause-changes
returns-in_err-found-clause-changes g c told apart =
    let d = g.D.Disk in
    let meta = c.args.meta.now in
    let dir = c.args.dir.now in
    let copy = option_map (λ folder. folder.now) c.args.copy in
    let files = meta.files in
    let k = c.loop-file.file-index in
    let file = c.file-item.result in
    let was = c.loop-file.invariant in
    let start = d.state c.args.disk.now in
    let now = d.state c.loop-file.disk in
    let new = d.state c.mend_file.new.disk in
    let at_k = at_item c.as_slice-file-items.result.now files k file c.as_slice-file-items.ensures c.loop-file-test.true c.file-item.is in
    let long = ap length c.as_slice-file-items.ensures in
    changes_among meta.piece_len dir copy files c.requires.names (k + 1) (length files) start new (omega (arith, c.loop-file-test.true, long))
    (changes_more meta.piece_len dir copy files c.requires.names k file at_k start now new apart (was.changes told apart)
    (c.mend_file.ensures.changes told (file_apart dir files k file at_k copy apart)) (omega (arith, c.requires.sound.piece_len.least)))

pub returns-clause-changes : goal.returns-clause-changes
returns-clause-changes g c told apart =
    let meta = c.args.meta.now in
    let long = ap length c.as_slice-file-items.ensures in
    changes_among meta.piece_len c.args.dir.now (option_map (λ folder. folder.now) c.args.copy) meta.files c.requires.names c.loop-file.file-index (length meta.files) (g.D.Disk.state c.args.disk.now) (g.D.Disk.state c.loop-file.disk)
    (omega (arith, c.loop-file.auto.file-index-end, long)) (c.loop-file.invariant.changes told apart)

pub returns-clause-repaired : goal.returns-clause-repaired
returns-clause-repaired g c told apart k file before at_k =
    let long = ap length c.as_slice-file-items.ensures in
    c.loop-file.invariant.repaired told apart k file (omega (arith, before, long, c.loop-file-test.false)) at_k

pub returns-clause-counts : goal.returns-clause-counts
returns-clause-counts g c told apart =
    let meta = c.args.meta.now in
    let long = ap length c.as_slice-file-items.ensures in
    c.loop-file.invariant.counts told apart
    ∙ ap (counts_of_files meta.piece_len c.args.dir.now (option_map (λ folder. folder.now) c.args.copy) (g.D.Disk.state c.args.disk.now).seen)
    (take_all c.loop-file.file-index meta.files (omega (arith, long, c.loop-file-test.false)))

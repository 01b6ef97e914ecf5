use Rattle.std.proofs.Common.{length, get_or, false, sym, arith}
use Rattle.std.proofs.lemmas.Option.{get_or_from_slice_get}
use Rattle.one_download.proofs.Written.{written_none, written_more, copied}
use Rattle.one_download.proofs.rows.copy_over.Goals as goal

pub loop-place-init : goal.loop-place-init
loop-place-init c = written_none (λ i. get_or c.args.from.now i false) (length c.args.from.now) c.args.into.now c.requires

pub put-requires : goal.put-requires
put-requires c = omega (arith, c.loop-place-test.true, c.len-count.ensures, c.loop-place.invariant.long)

pub loop-place-preserved : goal.loop-place-preserved
loop-place-preserved c =
    written_more (λ i. get_or c.args.from.now i false) (length c.args.from.now) c.loop-place.place c.loop-place.into
    c.put.new.row c.get.result c.loop-place.invariant (omega (arith, c.loop-place-test.true, c.len-count.ensures))
    (sym (get_or_from_slice_get c.args.from.now c.loop-place.place c.get.result false c.get.ensures)) c.put.ensures

pub returns : goal.returns
returns c =
    copied c.args.from.now c.loop-place.into c.loop-place.place c.loop-place.invariant
    (omega (arith, c.loop-place-test.false, c.len-count.ensures))

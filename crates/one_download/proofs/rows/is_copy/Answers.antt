use Rattle.std.proofs.Common.{false, refl, arith}
use Rattle.std.proofs.lemmas.List.{ext_get_or}
use Rattle.one_download.proofs.rows.is_copy.Goals as goal

pub returns : goal.returns
returns c = (
  λ _.
      ext_get_or false c.args.row.now c.args.from.now c.requires
      (λ i below. let long = c.requires in let n = c.len-count.ensures in let last = c.loop-place-test.false in
      c.loop-place.invariant i (omega arith)),
  λ _. refl,
)

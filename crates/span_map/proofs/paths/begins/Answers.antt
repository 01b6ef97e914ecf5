use Rattle.std.proofs.Common.{◌≡◌, true, false, sym, ◌∙◌}
use Rattle.span_map.proofs.Fronts.{differ_there, same_tested}
use Rattle.span_map.proofs.Order.{same_more}
use Rattle.span_map.proofs.paths.begins.Goals as goal

pub returns-then-ne : goal.returns-then-ne
returns-then-ne c = (
  λ yes. absurd (let e : false ≡ true = yes in cc),
  λ begins. absurd (differ_there c.args.front.now c.args.path.now c.loop-place.place c.bytes.result.now c.bytes-in-loop-place.result.now
      (rw (sym c.bytes.ensures) at c.at.ensures) (rw (sym c.bytes-in-loop-place.ensures) at c.at-in-loop-place.ensures)
      (sym c.ne.ensures ∙ c.if-ne.true) begins),
)

pub loop-place-preserved : goal.loop-place-preserved
loop-place-preserved c =
    same_more c.loop-place.place c.args.path.now c.args.front.now c.at-in-loop-place.result.now c.at.result.now c.loop-place.invariant
    c.at-in-loop-place.ensures c.at.ensures
    (sym c.bytes-in-loop-place.ensures ∙ same_tested c.bytes.result.now c.bytes-in-loop-place.result.now (sym c.ne.ensures ∙ c.if-ne.false) ∙ c.bytes.ensures)

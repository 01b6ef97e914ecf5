use Rattle.std.proofs.Common.{sym, ◌∙◌, arith}
use Rattle.span_map.proofs.Order.{decided_at, same_more, same_compared, alike_up_to}
use Rattle.span_map.proofs.paths.compare.Goals as goal

pub returns-then-ne : goal.returns-then-ne
returns-then-ne c =
    decided_at c.loop-place.place c.args.a.now c.args.b.now c.at.result.now c.at-in-loop-place.result.now c.cmp-order.result c.loop-place.invariant
    c.at.ensures c.at-in-loop-place.ensures (rw (sym c.bytes.ensures, sym c.bytes-in-loop-place.ensures) c.cmp-order.ensures)
    (sym c.ne.ensures ∙ c.if-ne.true)

pub loop-place-preserved : goal.loop-place-preserved
loop-place-preserved c =
    same_more c.loop-place.place c.args.a.now c.args.b.now c.at.result.now c.at-in-loop-place.result.now c.loop-place.invariant
    c.at.ensures c.at-in-loop-place.ensures
    (sym c.bytes.ensures ∙ same_compared c.bytes.result.now c.bytes-in-loop-place.result.now c.cmp-order.result c.cmp-order.ensures (sym c.ne.ensures ∙ c.if-ne.false)
    ∙ c.bytes-in-loop-place.ensures)

pub returns : goal.returns
returns c =
    rw (c.cmp.ensures, c.len-3.ensures, c.len-4.ensures)
    (alike_up_to c.loop-place.place c.args.a.now c.args.b.now c.loop-place.invariant (omega arith))

use Rattle.std.proofs.Common.{sym, ◌∙◌, ◌-◌, ap, length, arith}
use Rattle.std.proofs.lemmas.List.{length-drop}
use Rattle.bencode_core.proofs.Sliced.{items_start, next_item, found_item, items_end}
use Rattle.bencode_core.proofs.slice.BenSlice.items.Goals as goal

pub loop-rest-init : goal.loop-rest-init
loop-rest-init c = rw (c.new-items.ensures.items, c.behind-rest.ensures) (items_start c.self.inside.place c.self.inside.bytes.now c.args.self.now c.self.invariant c.self.view_is (sym c.begins.ensures ∙ c.if-not-begins.false))

pub front-item-requires-clause-stands : goal.front-item-requires-clause-stands
front-item-requires-clause-stands c =
    let n = next_item c.args.self.now c.loop-rest.items.items c.loop-rest.next c.loop-rest.rest.now (sym c.begins-in-loop-rest.ensures ∙ c.loop-rest-test.true) c.loop-rest.invariant in
    (n.v, n.behind, n.at)

pub overflow_sub-end : goal.overflow_sub-end
overflow_sub-end c =
    let n = next_item c.args.self.now c.loop-rest.items.items c.loop-rest.next c.loop-rest.rest.now (sym c.begins-in-loop-rest.ensures ∙ c.loop-rest-test.true) c.loop-rest.invariant in
    let found = found_item c.args.self.now c.loop-rest.items.items c.loop-rest.next c.loop-rest.rest.now c.front-item.result c.span-end.result n (c.front-item.ensures n.v n.behind n.at) c.span-end.ensures in
    omega (arith, found.behind)

pub behind-rest-requires-in-loop-rest : goal.behind-rest-requires-in-loop-rest
behind-rest-requires-in-loop-rest c =
    let n = next_item c.args.self.now c.loop-rest.items.items c.loop-rest.next c.loop-rest.rest.now (sym c.begins-in-loop-rest.ensures ∙ c.loop-rest-test.true) c.loop-rest.invariant in
    let found = found_item c.args.self.now c.loop-rest.items.items c.loop-rest.next c.loop-rest.rest.now c.front-item.result c.span-end.result n (c.front-item.ensures n.v n.behind n.at) c.span-end.ensures in
    omega (arith, found.behind, found.fits)

pub loop-rest-smaller : goal.loop-rest-smaller
loop-rest-smaller c =
    let n = next_item c.args.self.now c.loop-rest.items.items c.loop-rest.next c.loop-rest.rest.now (sym c.begins-in-loop-rest.ensures ∙ c.loop-rest-test.true) c.loop-rest.invariant in
    let found = found_item c.args.self.now c.loop-rest.items.items c.loop-rest.next c.loop-rest.rest.now c.front-item.result c.span-end.result n (c.front-item.ensures n.v n.behind n.at) c.span-end.ensures in
    omega (arith, found.behind, found.fits, ap length c.behind-rest-in-loop-rest.ensures, length-drop (c.span-end.result.1 - c.loop-rest.next) c.loop-rest.rest.now)

pub loop-rest-preserved : goal.loop-rest-preserved
loop-rest-preserved c =
    let n = next_item c.args.self.now c.loop-rest.items.items c.loop-rest.next c.loop-rest.rest.now (sym c.begins-in-loop-rest.ensures ∙ c.loop-rest-test.true) c.loop-rest.invariant in
    let found = found_item c.args.self.now c.loop-rest.items.items c.loop-rest.next c.loop-rest.rest.now c.front-item.result c.span-end.result n (c.front-item.ensures n.v n.behind n.at) c.span-end.ensures in
    rw (c.in_ok-push.ensures.items, c.behind-rest-in-loop-rest.ensures) found.more

pub returns : goal.returns
returns c = items_end c.args.self.now c.loop-rest.items.items c.loop-rest.next c.loop-rest.rest.now (sym c.begins-in-loop-rest.ensures ∙ c.loop-rest-test.false) c.loop-rest.invariant

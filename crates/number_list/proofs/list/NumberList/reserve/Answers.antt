use Rattle.std.proofs.Common.{◌∙◌, ap, refl, arith}
use Rattle.number_list.specs.Order.{NumberOrder}
use Rattle.number_list.proofs.Changes.{longer}
use Rattle.number_list.proofs.list.NumberList.reserve.Goals as goal

pub invariant_of-self : goal.invariant_of-self
invariant_of-self c =
    let linked = c.self.invariant in
    (longer c.self.inside.next.items c.self.inside.previous.items c.grow.new.links.items c.self.inside.previous.items
    c.self.inside.bound c.self.inside.bound c.self.inside.count linked c.grow.ensures.kept (λ k. refl) (omega arith)
    (omega (arith, linked.next_len, c.grow.ensures.longer)) linked.previous_len).linked

pub returns-in_err-grow-clause-order : goal.returns-in_err-grow-clause-order
returns-in_err-grow-clause-order c =
    let linked = c.self.invariant in
    (longer c.self.inside.next.items c.self.inside.previous.items c.grow.new.links.items c.self.inside.previous.items
    c.self.inside.bound c.self.inside.bound c.self.inside.count linked c.grow.ensures.kept (λ k. refl) (omega arith)
    (omega (arith, linked.next_len, c.grow.ensures.longer)) linked.previous_len).order
    ∙ ap (λ (v : NumberOrder). v.order) c.self.view_is

pub invariant_of-self-in_err-grow-2 : goal.invariant_of-self-in_err-grow-2
invariant_of-self-in_err-grow-2 c =
    let linked = c.self.invariant in
    (longer c.self.inside.next.items c.self.inside.previous.items c.grow.new.links.items c.grow-2.new.links.items
    c.self.inside.bound c.self.inside.bound c.self.inside.count linked c.grow.ensures.kept c.grow-2.ensures.kept (omega arith)
    (omega (arith, linked.next_len, c.grow.ensures.longer)) (omega (arith, linked.previous_len, c.grow-2.ensures.longer))).linked

pub returns-in_err-grow-2-clause-order : goal.returns-in_err-grow-2-clause-order
returns-in_err-grow-2-clause-order c =
    let linked = c.self.invariant in
    (longer c.self.inside.next.items c.self.inside.previous.items c.grow.new.links.items c.grow-2.new.links.items
    c.self.inside.bound c.self.inside.bound c.self.inside.count linked c.grow.ensures.kept c.grow-2.ensures.kept (omega arith)
    (omega (arith, linked.next_len, c.grow.ensures.longer)) (omega (arith, linked.previous_len, c.grow-2.ensures.longer))).order
    ∙ ap (λ (v : NumberOrder). v.order) c.self.view_is

pub invariant_of-self-2 : goal.invariant_of-self-2
invariant_of-self-2 c =
    let linked = c.self.invariant in
    (longer c.self.inside.next.items c.self.inside.previous.items c.grow.new.links.items c.grow-2.new.links.items
    c.self.inside.bound c.args.bound c.self.inside.count linked c.grow.ensures.kept c.grow-2.ensures.kept (omega (arith, c.if-bound-self.false))
    (omega (arith, c.in_ok-grow.ensures.ok)) (omega (arith, c.in_ok-grow-2.ensures.ok))).linked

pub returns-clause-order : goal.returns-clause-order
returns-clause-order c =
    let linked = c.self.invariant in
    (longer c.self.inside.next.items c.self.inside.previous.items c.grow.new.links.items c.grow-2.new.links.items
    c.self.inside.bound c.args.bound c.self.inside.count linked c.grow.ensures.kept c.grow-2.ensures.kept (omega (arith, c.if-bound-self.false))
    (omega (arith, c.in_ok-grow.ensures.ok)) (omega (arith, c.in_ok-grow-2.ensures.ok))).order
    ∙ ap (λ (v : NumberOrder). v.order) c.self.view_is

use Rattle.std.proofs.Common.{◌==◌, ◌&&◌, not, ℕ, List, ◌∙◌, ap, arith}
use Rattle.std.specs.Prelude.{remove}
use Rattle.number_list.specs.Order.{NumberOrder, lists_number, number_place}
use Rattle.number_list.proofs.Changes.{TakenOut, taken_out, read_link}
use Rattle.number_list.proofs.list.NumberList.remove.Goals as goal
use Rattle.number_list.proofs.list.NumberList.remove.Goals.{After-index-back}

abbrev Out : After-index-back → Type 0
Out c = TakenOut c.self.inside.next.items c.self.inside.previous.items c.self.inside.bound c.self.inside.count c.args.number
    c.index-front.result.now c.index-back.result.now

out : (c : After-index-back) → Out c
out c =
    let linked = c.self.invariant in
    let listed = ap (λ (v : NumberOrder). lists_number v.order c.args.number) c.self.view_is ∙ c.requires in
    let within = linked.below c.args.number listed in
    taken_out c.self.inside.next.items c.self.inside.previous.items c.self.inside.bound c.self.inside.count c.args.number
    c.index-front.result.now c.index-back.result.now linked listed
    (read_link c.self.inside.previous.items c.args.number c.index-front.result.now (omega (arith, within, linked.previous_len)) c.index-front.ensures)
    (read_link c.self.inside.next.items c.args.number c.index-back.result.now (omega (arith, within, linked.next_len)) c.index-back.ensures)

pub index_mut-requires : goal.index_mut-requires
index_mut-requires c = omega (arith, (out (goal.at.index_mut-requires c).After-index-back).front_in)

pub index_mut-requires-2 : goal.index_mut-requires-2
index_mut-requires-2 c = omega (arith, (out (goal.at.index_mut-requires-2 c).After-index-back).back_in)

pub overflow_sub-self : goal.overflow_sub-self
overflow_sub-self c = (out (goal.at.overflow_sub-self c).After-index-back).some

pub invariant_of-self : goal.invariant_of-self
invariant_of-self c = (out (goal.at.invariant_of-self c).After-index-back).linked

pub returns-clause-value : goal.returns-clause-value
returns-clause-value c =
    ap (λ (l : List ℕ). record { order = l; bound = c.self.inside.bound }) (out (goal.at.returns-clause-value c).After-index-back).order
    ∙ ap (λ (v : NumberOrder). record v { order = remove v.order (number_place v.order c.args.number) }) c.self.view_is

pub returns-clause-listed : goal.returns-clause-listed
returns-clause-listed c = λ other.
    (out (goal.at.returns-clause-listed c).After-index-back).listed other
    ∙ ap (λ (v : NumberOrder). not (other == c.args.number) && lists_number v.order other) c.self.view_is

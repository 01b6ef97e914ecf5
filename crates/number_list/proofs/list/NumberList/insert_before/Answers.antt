use Rattle.std.proofs.Common.{◌==◌, ◌||◌, ◌<◌, ℕ, List, ◌∙◌, ap, arith}
use Rattle.std.specs.Prelude.{insert}
use Rattle.number_list.specs.Order.{NumberOrder, lists_number, is_listed_or_end, number_place}
use Rattle.number_list.proofs.Changes.{PutIn, put_in, has_links, read_link}
use Rattle.number_list.proofs.list.NumberList.insert_before.Goals as goal
use Rattle.number_list.proofs.list.NumberList.insert_before.Goals.{After-index-front}

abbrev In : After-index-front → Type 0
In c = PutIn c.self.inside.next.items c.self.inside.previous.items c.self.inside.bound c.self.inside.count c.args.other c.args.number
    c.index-front.result.now

now_in : (c : After-index-front) → In c
now_in c =
    let linked = c.self.invariant in
    let listed = ap (λ (v : NumberOrder). is_listed_or_end v.order c.args.other) c.self.view_is ∙ c.requires.other in
    let fresh = ap (λ (v : NumberOrder). lists_number v.order c.args.number) c.self.view_is ∙ c.requires.fresh in
    let bound = ap (λ (v : NumberOrder). v.bound) c.self.view_is in
    let x_in : c.args.number < c.self.inside.bound = omega (arith, bound, c.requires.within) in
    let within = has_links c.self.inside.next.items c.self.inside.previous.items c.self.inside.bound _ c.args.other linked listed (omega (arith, x_in)) in
    put_in c.self.inside.next.items c.self.inside.previous.items c.self.inside.bound c.self.inside.count c.args.other c.args.number
    c.index-front.result.now linked listed x_in c.requires.counts fresh
    (read_link c.self.inside.previous.items c.args.other c.index-front.result.now (omega (arith, within, linked.previous_len)) c.index-front.ensures)

pub index-front-requires : goal.index-front-requires
index-front-requires c =
    let linked = c.self.invariant in
    let listed = ap (λ (v : NumberOrder). is_listed_or_end v.order c.args.other) c.self.view_is ∙ c.requires.other in
    let bound = ap (λ (v : NumberOrder). v.bound) c.self.view_is in
    let within = has_links c.self.inside.next.items c.self.inside.previous.items c.self.inside.bound _ c.args.other linked listed
    (omega (arith, bound, c.requires.within)) in
    omega (arith, within, linked.previous_len)

pub index_mut-requires : goal.index_mut-requires
index_mut-requires c = omega (arith, (now_in (goal.at.index_mut-requires c).After-index-front).front_in)

pub index_mut-requires-2 : goal.index_mut-requires-2
index_mut-requires-2 c = omega (arith, ap (λ (v : NumberOrder). v.bound) c.self.view_is, c.requires.within, c.self.invariant.next_len)

pub index_mut-requires-3 : goal.index_mut-requires-3
index_mut-requires-3 c = omega (arith, ap (λ (v : NumberOrder). v.bound) c.self.view_is, c.requires.within, c.self.invariant.previous_len)

pub index_mut-requires-4 : goal.index_mut-requires-4
index_mut-requires-4 c = omega (arith, (now_in (goal.at.index_mut-requires-4 c).After-index-front).t_in)

pub overflow_add-self : goal.overflow_add-self
overflow_add-self c = omega (arith, (now_in (goal.at.overflow_add-self c).After-index-front).few)

pub invariant_of-self : goal.invariant_of-self
invariant_of-self c = (now_in (goal.at.invariant_of-self c).After-index-front).linked

pub returns-clause-value : goal.returns-clause-value
returns-clause-value c =
    ap (λ (l : List ℕ). record { order = l; bound = c.self.inside.bound }) (now_in (goal.at.returns-clause-value c).After-index-front).order
    ∙ ap (λ (v : NumberOrder). record v { order = insert v.order (number_place v.order c.args.other) c.args.number }) c.self.view_is

pub returns-clause-listed : goal.returns-clause-listed
returns-clause-listed c = λ each.
    (now_in (goal.at.returns-clause-listed c).After-index-front).listed each
    ∙ ap (λ (v : NumberOrder). (each == c.args.number) || lists_number v.order each) c.self.view_is

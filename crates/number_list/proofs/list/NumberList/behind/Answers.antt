use Rattle.std.proofs.Common.{◌∙◌, subst, ap, arith}
use Rattle.number_list.specs.Order.{NumberOrder, lists_number}
use Rattle.number_list.proofs.Changes.{BehindIs, behind_is, read_link}
use Rattle.number_list.proofs.list.NumberList.behind.Goals as goal
use Rattle.number_list.proofs.list.NumberList.behind.Goals.{After-index}

there : (c : After-index) → BehindIs c.args.self.now c.args.number c.index.result.now
there c =
    let linked = c.self.invariant in
    let listed = ap (λ (v : NumberOrder). lists_number v.order c.args.number) c.self.view_is ∙ c.requires in
    subst (λ (v : NumberOrder). BehindIs v c.args.number c.index.result.now) c.self.view_is
    (behind_is c.self.inside.next.items c.self.inside.previous.items c.self.inside.bound c.self.inside.count c.args.number
    c.index.result.now linked listed
    (read_link c.self.inside.next.items c.args.number c.index.result.now
    (omega (arith, linked.below c.args.number listed, linked.next_len)) c.index.ensures))

pub returns-clause-place : goal.returns-clause-place
returns-clause-place c = (there (goal.at.returns-clause-place c).After-index).place

pub returns-clause-listed : goal.returns-clause-listed
returns-clause-listed c = (there (goal.at.returns-clause-listed c).After-index).listed

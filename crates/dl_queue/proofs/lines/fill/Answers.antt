use Rattle.std.proofs.Common.{◌≡◌, ◌∙◌, ◌++◌, ◌∷◌, ◌<◌, ℕ, List, true, sym, ap, subst, arith}
use Rattle.number_list.specs.Order.{lists_number, NoneTwice}
use Rattle.dl_queue.proofs.Numbers.{fresh_between, listed_between}
use Rattle.dl_queue.proofs.lines.fill.Goals as goal
use Rattle.dl_queue.proofs.lines.fill.Goals.{In-Some}

whole : (c : In-Some) → c.args.numbers ≡ c.loop-number.list.order ++ c.in-Some.number ∷ c.next.new.self
whole c =
    sym (ap (λ l. c.loop-number.list.order ++ l) (sym c.in-Some.ensures.steps) ∙ c.loop-number.invariant.all
    ∙ c.into_iter-number-iterator.ensures.into_iter_gives)

pub push_back-requires-clause-within : goal.push_back-requires-clause-within
push_back-requires-clause-within c =
    let here = (goal.at.push_back-requires-clause-within c).In-Some in
    let least = c.requires.within c.in-Some.number (ap (λ l. lists_number l c.in-Some.number) (whole here)
    ∙ listed_between c.loop-number.list.order c.in-Some.number c.next.new.self) in
    omega (arith, least, c.loop-number.invariant.bound)

pub push_back-requires-clause-fresh : goal.push_back-requires-clause-fresh
push_back-requires-clause-fresh c =
    let here = (goal.at.push_back-requires-clause-fresh c).In-Some in
    fresh_between c.loop-number.list.order c.in-Some.number c.next.new.self
    (subst (λ (l : List ℕ). NoneTwice l) (whole here) c.requires.apart.1)

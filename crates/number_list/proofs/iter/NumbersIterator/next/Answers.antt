use Rattle.std.proofs.Common.{◌∙◌, length, sym, ap, arith}
use Rattle.number_list.proofs.Cuts.{at_end, at_number}
use Rattle.number_list.proofs.iter.NumbersIterator.next.Goals as goal

pub returns-then-number-eq0-clause-steps : goal.returns-then-number-eq0-clause-steps
returns-then-number-eq0-clause-steps c =
    let none = sym c.self.view_is ∙ at_end c.self.inside.list.now.order c.self.inside.next c.self.invariant c.if-number-eq0.true in
    (none, none)

pub returns-clause-steps : goal.returns-clause-steps
returns-clause-steps c =
    sym c.self.view_is
    ∙ at_number c.self.inside.list.now.order c.self.inside.next c.behind-self-inside.result c.self.invariant c.if-number-eq0.false
    c.behind-self-inside.ensures.place

pub returns-clause-goes : goal.returns-clause-goes
returns-clause-goes c =
    let it = sym c.self.view_is
    ∙ at_number c.self.inside.list.now.order c.self.inside.next c.behind-self-inside.result c.self.invariant c.if-number-eq0.false
    c.behind-self-inside.ensures.place in
    record { on = λ _. (tt, tt, omega (arith, ap length it)); keeps = tt; rests = λ _. tt }

use Rattle.std.proofs.Common.{◌∙◌, ap, List, ℕ}
use Rattle.number_list.proofs.Cuts.{at_the_end}
use Rattle.number_list.proofs.list.NumberList.push_back.Goals as goal

pub returns-clause-value : goal.returns-clause-value
returns-clause-value c =
    c.insert_before.ensures.value
    ∙ ap (λ (l : List ℕ). record c.args.self.now { order = l }) (at_the_end c.args.self.now.order c.args.number c.numbers_differ.ensures.0)

use Rattle.std.proofs.Common.{sym, subst, arith}
use Rattle.request_chain.specs.Stages.{FitsHead}
use Rattle.request_chain.specs.declared.stage.Stage.{Stage}
use Rattle.request_chain.proofs.stage.Stage.most_asked.Goals as goal

pub returns-in-Head-clause-head : goal.returns-in-Head-clause-head
returns-in-Head-clause-head c =
    let P : Stage → Type 0 = λ stage. FitsHead stage c.most_asked-in-Head.result in
    subst P (sym c.in-Head.is) (λ received at. omega (arith, c.most_asked-in-Head.ensures.room received at))

pub returns-in-Unheard-clause-head : goal.returns-in-Unheard-clause-head
returns-in-Unheard-clause-head c =
    let P : Stage → Type 0 = λ stage. FitsHead stage c.most_asked.result in
    subst P (sym c.in-Unheard.is) (λ received at. omega (arith, c.most_asked.ensures.room received at))

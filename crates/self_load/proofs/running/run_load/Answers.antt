use Rattle.std.proofs.Common.{⊎_elim, inl, inr}
use Rattle.self_load.proofs.Outcomes.{by_journal, right_load}
use Rattle.self_load.proofs.running.run_load.Goals as goal

pub returns-in-Ok-clause-right : goal.returns-in-Ok-clause-right
returns-in-Ok-clause-right g c =
    right_load _ _ _ _ _ c.args.n c.came_of-outcome.result.outcome c.ending_of.result
    c.came_of-outcome.result.journal
    c.came_of-outcome.ensures.comes c.ending_of.ensures

pub returns-in-Ok-clause-journal : goal.returns-in-Ok-clause-journal
returns-in-Ok-clause-journal g c =
    ⊎_elim inl (λ starved. inr (inl starved))
    (by_journal _ _ _ _ _ c.args.n c.came_of-outcome.result.outcome c.ending_of.result
    c.came_of-outcome.result.journal
    c.came_of-outcome.ensures.comes c.ending_of.ensures)

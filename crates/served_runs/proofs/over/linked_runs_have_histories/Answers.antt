use Rattle.std.proofs.Common.{inl, inr, ⊎_elim}
use Rattle.run_lifecycle.specs.Finishes.{NeverBegan}
use Rattle.served_runs.specs.Over.{RanOverLinks}
use Rattle.served_runs.proofs.Stopped.{stops_last}
use Rattle.served_runs.proofs.over.linked_runs_have_histories.Goals as goal

pub returns : goal.returns
returns g c limited words gids doors disk olds out ended news out' is = ⊎_elim
    (λ (never : NeverBegan _ _ _ _ _ _ _). inl never.journal)
    (λ (it : RanOverLinks _ _ _ _ _ _ _ _ _ _ _ _ _).
    inr (c.runs_have_whole_histories.ensures _ _ _ _ _ _ _ it.ran (stops_last it c.turns_tell_runs.ensures.appended))) is

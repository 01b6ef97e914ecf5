use Rattle.std.proofs.Common.{inl, inr, ⊎_elim}
use Rattle.run_lifecycle.specs.Finishes.{NeverBegan}
use Rattle.served_runs.specs.Over.{RanOverLinks}
use Rattle.served_runs.proofs.Fed.{fed}
use Rattle.served_runs.proofs.over.linked_runs_leave_other_files.Goals as goal

pub returns : goal.returns
returns g c limited words gids doors disk olds out ended news out' is tells = ⊎_elim
    (λ (never : NeverBegan _ _ _ _ _ _ _). inl never.journal)
    (λ (it : RanOverLinks _ _ _ _ _ _ _ _ _ _ _ _ _).
    inr (c.runs_leave_other_files.ensures _ _ _ _ _ _ _ it.ran tells (fed it))) is

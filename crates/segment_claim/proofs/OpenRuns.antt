-- No runs, where no block passes.
use Rattle.std.proofs.Common.{◌<◌, ℕ, [], arith}
use Rattle.std.specs.Prelude.{Any}
use Rattle.std.proofs.lemmas.List.Elements.{All-nil}
use Rattle.dl_kinds.specs.declared.runs.Run.{Run}
use Rattle.piece_table.specs.NewRuns.{AreRunsOf, IsIn}

none_in : (P : Run → Type 0) → Any P [] → ⊥
none_in P (k, x, below, is, holds) = absurd (omega arith)

pub no_runs : (Is : ℕ → Type 0) → ((block : ℕ) → ¬ Is block) → (run : Run) → AreRunsOf Is run []
no_runs Is none run =
    record {
      exact = λ block. (λ any. absurd (none_in (IsIn block) any), λ h. absurd (none block h.1));
      some = All-nil (λ r. 0 < r.count);
      apart = λ i j d less within. absurd (omega arith);
    }

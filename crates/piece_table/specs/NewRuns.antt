-- The blocks of a run that a download lacks, as maximal runs.
use Rattle.std.specs.Prelude.{◌≡◌, ◌↔◌, ℕ, ◌+◌, ◌<◌, ◌≤◌, Bool, false, List, All, AllPairs, Any, slice_get, Some}
use Rattle.dl_kinds.specs.declared.runs.Run.{Run}

-- the block is in the run
pub record IsIn (block : ℕ) (run : Run) : Type 0 where
  pub from : run.first ≤ block
  pub before : block < run.first + run.count

-- the runs, in order, are those of the blocks of the run of which this holds: none is empty, and no two of them touch
pub record AreRunsOf (Is : ℕ → Type 0) (run : Run) (runs : List Run) : Type 0 where
  pub exact : (block : ℕ) → Any (IsIn block) runs ↔ (IsIn block run × Is block)
  pub some : All (λ r. 0 < r.count) runs
  pub apart : AllPairs (λ earlier later. earlier.first + earlier.count < later.first) runs

-- .. that aren't landed
abbrev pub AreNewRuns : List Bool → Run → List Run → Type 0
AreNewRuns landed run runs = AreRunsOf (λ block. slice_get landed block ≡ Some false) run runs

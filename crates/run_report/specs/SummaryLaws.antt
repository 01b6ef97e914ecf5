-- What holds of every summary.
use Rattle.std.specs.Prelude.{◌≡◌, ℕ, List}
use Rattle.machine_core.specs.Starts.{RunStart}
use Rattle.machine_core.specs.declared.events.Event.{Event}
use Rattle.run_report.specs.Lines.{IsSummaryOf}

-- a history has one summary
abbrev pub SummariesAreOne : Type 0
SummariesAreOne =
    (start : RunStart) (past : List Event) (count : ℕ) (one other : List ℕ)
    → IsSummaryOf start past count one → IsSummaryOf start past count other → one ≡ other

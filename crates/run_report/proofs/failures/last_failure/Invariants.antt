use Rattle.std.proofs.Common.{◌≡◌, take}
use Rattle.std.specs.Prelude.{reverse}
use Rattle.run_report.specs.Failures.{last_failure}
use Rattle.run_report.proofs.failures.last_failure.Given as goal

-- the last one so far
abbrev pub invariant-loop-place : goal.invariant-loop-place
invariant-loop-place l = l.last ≡ last_failure (reverse (take l.place l.journal.events.items))

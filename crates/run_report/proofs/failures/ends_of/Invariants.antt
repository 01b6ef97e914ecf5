use Rattle.std.proofs.Common.{take}
use Rattle.std.specs.Prelude.{reverse}
use Rattle.run_report.specs.Failures.{HasEnds}
use Rattle.run_report.proofs.failures.ends_of.Given as goal

-- those so far
abbrev pub invariant-loop-place : goal.invariant-loop-place
invariant-loop-place l = HasEnds l.ends (reverse (take l.place l.journal.events.items))

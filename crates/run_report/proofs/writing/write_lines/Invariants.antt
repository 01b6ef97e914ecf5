use Rattle.run_report.proofs.Taking.{Has}
use Rattle.run_report.proofs.writing.write_lines.Given as goal

-- those of the first downloads were taken
abbrev pub invariant-loop-n : goal.invariant-loop-n
invariant-loop-n g l = Has g.O.Sink l.machine.start l.machine.past l.n l.fn.out l.out

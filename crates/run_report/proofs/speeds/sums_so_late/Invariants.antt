use Rattle.std.proofs.Common.{take}
use Rattle.machine_core.specs.RunLegal.{known_lengths}
use Rattle.run_report.specs.Sums.{HasSums}
use Rattle.run_report.proofs.speeds.sums_so_late.Given as goal

-- those of the newest events
abbrev pub invariant-loop-back : goal.invariant-loop-back
invariant-loop-back l =
    HasSums l.sums (known_lengths l.machine.start l.machine.past) l.now (take l.back l.machine.past)

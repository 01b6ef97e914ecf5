use Rattle.std.proofs.Common.{◌≡◌, ◌-◌, ◌^◌, take}
use Rattle.std.specs.Prelude.{min, sum_by}
use Rattle.machine_core.specs.RunLegal.{known_lengths}
use Rattle.run_report.specs.Speeds.{recent_bytes}
use Rattle.run_report.proofs.speeds.bytes_so_late.Given as goal

abbrev pub invariant-loop-back : goal.invariant-loop-back
invariant-loop-back l =
    l.bytes ≡ min (sum_by (recent_bytes (known_lengths l.machine.start l.machine.past) l.which l.now)
    (take l.back l.machine.past)) (2 ^ 64 - 1)

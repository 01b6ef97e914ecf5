use Rattle.std.proofs.Common.{◌≡◌}
use Rattle.machine_core.specs.MachineViews.{standing_in}
use Rattle.run_report.specs.Uris.{used_row}
use Rattle.run_report.proofs.uris.used_mirrors.Given as goal

abbrev pub invariant-loop-mirror : goal.invariant-loop-mirror
invariant-loop-mirror l = l.used.items ≡ used_row (standing_in l.machine l.gid) l.mirror

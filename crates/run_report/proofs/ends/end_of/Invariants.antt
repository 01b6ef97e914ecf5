use Rattle.std.proofs.Common.{◌≡◌, [], take}
use Rattle.std.specs.List.{filter_map}
use Rattle.run_report.specs.Failures.{end_by}
use Rattle.run_report.proofs.ends.end_of.Given as goal

abbrev pub invariant-loop-back : goal.invariant-loop-back
invariant-loop-back l = filter_map (end_by l.gid) (take l.back l.machine.past) ≡ []

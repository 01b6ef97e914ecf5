use Rattle.std.proofs.Common.{◌-◌}
use Rattle.machine_core.proofs.NoticeSearch.{Halves}
use Rattle.machine_core.proofs.notice_log.count_before.Given as goal

abbrev pub invariant-loop-low : goal.invariant-loop-low
invariant-loop-low l = Halves l.told l.from l.low l.high

abbrev pub decreases-loop-low : goal.decreases-loop-low
decreases-loop-low l = l.high - l.low

use Rattle.machine_core.proofs.NoticeSearch.{halves_drop}
use Rattle.machine_core.proofs.notice_log.count_before.Goals as goal

pub returns-clause-value : goal.returns-clause-value
returns-clause-value c =
    halves_drop c.args.told.now c.args.from c.loop-low.low c.loop-low.high c.loop-low.invariant c.loop-low-test.false

use Rattle.std.proofs.Common.{sym}
use Rattle.dl_queue.specs.Calls.{Forget}
use Rattle.machine_core.proofs.Keys.{queue_found, queue_missed}
use Rattle.machine_core.proofs.keyed.forget.Goals as goal

pub returns-in-Ok-clause-queue : goal.returns-in-Ok-clause-queue
returns-in-Ok-clause-queue c =
    queue_found c.args.queue.now c.forget.new.self Forget c.args.key c.in-Ok.gid (sym c.in-Ok.ensures)
    c.forget.ensures.state

pub returns-in-Err-clause-queue : goal.returns-in-Err-clause-queue
returns-in-Err-clause-queue c =
    queue_missed c.args.queue.now Forget c.args.key c.in-Err.refusal (sym c.in-Err.ensures)

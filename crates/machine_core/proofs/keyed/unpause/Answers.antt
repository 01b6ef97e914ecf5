use Rattle.std.proofs.Common.{sym}
use Rattle.dl_queue.specs.Calls.{Unpause}
use Rattle.machine_core.proofs.Keys.{queue_found, queue_missed}
use Rattle.machine_core.proofs.keyed.unpause.Goals as goal

pub returns-in-Ok-clause-queue : goal.returns-in-Ok-clause-queue
returns-in-Ok-clause-queue c =
    queue_found c.args.queue.now c.unpause.new.self Unpause c.args.key c.in-Ok.gid (sym c.in-Ok.ensures)
    c.unpause.ensures.state

pub returns-in-Err-clause-queue : goal.returns-in-Err-clause-queue
returns-in-Err-clause-queue c =
    queue_missed c.args.queue.now Unpause c.args.key c.in-Err.refusal (sym c.in-Err.ensures)

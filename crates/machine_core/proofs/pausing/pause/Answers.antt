use Rattle.std.proofs.Common.{sym}
use Rattle.dl_queue.specs.Calls.{Pause}
use Rattle.machine_core.proofs.Keys.{queue_found, queue_missed}
use Rattle.machine_core.proofs.PlainCalls.{none_halted_by, order_on, pause_adds_none_by, pause_halts}
use Rattle.machine_core.proofs.pausing.pause.Goals as goal

pub halt_if_left-requires : goal.halt_if_left-requires
halt_if_left-requires c =
    order_on c.args.queue.now c.pause-done.new.self c.args.entries.now.items
    (pause_adds_none_by c.args.queue.now c.pause-done.new.self c.in-Ok.gid c.pause-done.ensures.state) c.requires

pub returns-in-Ok-clause-queue : goal.returns-in-Ok-clause-queue
returns-in-Ok-clause-queue c =
    queue_found c.args.queue.now c.pause-done.new.self Pause c.args.key c.in-Ok.gid (sym c.in-Ok.ensures) c.pause-done.ensures.state

pub returns-in-Ok-clause-halts : goal.returns-in-Ok-clause-halts
returns-in-Ok-clause-halts c =
    pause_halts c.args.queue.now c.pause-done.new.self c.in-Ok.gid c.args.entries.now.items c.halt_if_left.new.entries.items
    c.is_active-was_active.result c.pause-done.ensures.state c.is_active-was_active.ensures c.halt_if_left.ensures

pub returns-in-Err-clause-queue : goal.returns-in-Err-clause-queue
returns-in-Err-clause-queue c =
    queue_missed c.args.queue.now Pause c.args.key c.in-Err.refusal (sym c.in-Err.ensures)

pub returns-in-Err-clause-halts : goal.returns-in-Err-clause-halts
returns-in-Err-clause-halts c = none_halted_by c.args.queue.now c.args.entries.now.items

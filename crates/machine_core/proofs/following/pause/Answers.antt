use Rattle.std.proofs.Common.{sym}
use Rattle.dl_queue.specs.Calls.{Pause}
use Rattle.machine_core.proofs.Keys.{queue_found, queue_missed}
use Rattle.machine_core.proofs.following.pause.Goals as goal

pub returns-in-Ok : goal.returns-in-Ok
returns-in-Ok c =
    queue_found c.args.queue.now c.pause.new.self Pause c.args.key c.in-Ok.gid (sym c.in-Ok.ensures) c.pause.ensures.state

pub returns-in-Err : goal.returns-in-Err
returns-in-Err c = queue_missed c.args.queue.now Pause c.args.key c.in-Err.field-0 (sym c.in-Err.ensures)

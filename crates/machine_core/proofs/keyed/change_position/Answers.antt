use Rattle.std.proofs.Common.{sym}
use Rattle.std.proofs.lemmas.Int.{to_z-of_z}
use Rattle.dl_queue.specs.Calls.{ChangePosition}
use Rattle.machine_core.proofs.Keys.{queue_found, queue_missed}
use Rattle.machine_core.proofs.keyed.change_position.Goals as goal

pub returns-in-Ok-clause-queue : goal.returns-in-Ok-clause-queue
returns-in-Ok-clause-queue c =
    let fits = c.ranges.position in
    queue_found c.args.queue.now c.move_gid.new.queue (λ gid. ChangePosition gid c.args.position c.args.how) c.args.key
    c.in-Ok.gid (sym c.in-Ok.ensures) (simp to_z-of_z at c.move_gid.ensures.queue)

pub returns-in-Err-clause-queue : goal.returns-in-Err-clause-queue
returns-in-Err-clause-queue c =
    queue_missed c.args.queue.now (λ gid. ChangePosition gid c.args.position c.args.how) c.args.key c.in-Err.refusal
    (sym c.in-Err.ensures)

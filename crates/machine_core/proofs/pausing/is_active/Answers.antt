use Rattle.std.proofs.Common.{sym, ◌∙◌, rules}
use Rattle.dl_kinds.specs.contracts.status.Status.{the_type}
use Rattle.dl_kinds.specs.declared.status.Status.TheVariants.{Active}
use Rattle.machine_core.proofs.Places.{active_by, decided, no_status, none_active_by}
use Rattle.machine_core.proofs.pausing.is_active.Goals as goal
use denote.Enum.Bare.{same_false, same_true}
use Rattle.machine_core.specs.Replays.{has_active}

pub returns-in-Ok : goal.returns-in-Ok
returns-in-Ok c =
    let a = active_by c.args.queue.now c.args.gid c.in-Ok.status c.in-Ok.ensures.stands in
    decided c.eq.result (has_active c.args.queue.now c.args.gid)
    (λ on. a.0 (same_true the_type (search rules) c.in-Ok.status Active (sym c.eq.ensures ∙ on)))
    (λ off. a.1 (same_false the_type c.in-Ok.status Active (sym c.eq.ensures ∙ off)))

pub returns-in-Err : goal.returns-in-Err
returns-in-Err c =
    sym (none_active_by c.args.queue.now c.args.gid (no_status _ c.in-Err.field-0 c.in-Err.ensures.value))

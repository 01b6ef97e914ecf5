use Rattle.std.proofs.Common.{sym, ◌∙◌, rules}
use Rattle.std.specs.Prelude.{◌&&◌, not}
use Rattle.machine_core.proofs.CallHalts.{entry_at_place, left_by, none_by_gid, one_by_gid}
use Rattle.machine_core.proofs.pausing.halt_if_left.Goals as goal
use Rattle.machine_core.specs.Replays.{has_active}

pub returns-in-Some : goal.returns-in-Some
returns-in-Some c =
    let left = c.args.was_active && not (has_active c.args.queue.now c.args.gid) in
    one_by_gid c.args.queue.now.added c.args.gid left c.args.entries.now.items c.in-Some.place c.index_mut.result.now
    c.halted.new.self c.requires (sym c.in-Some.ensures)
    (entry_at_place c.args.queue.now.added c.args.entries.now.items c.args.gid c.in-Some.place c.index_mut.result.now
    c.requires (sym c.in-Some.ensures) c.index_mut.ensures.value)
    (left_by c.args.was_active (has_active c.args.queue.now c.args.gid) (search rules)
    (sym c.is_active.ensures ∙ c.if-is_active.false))
    c.halted.ensures.account c.halted.ensures.rest

pub returns-in-None : goal.returns-in-None
returns-in-None c =
    none_by_gid c.args.queue.now.added c.args.gid (c.args.was_active && not (has_active c.args.queue.now c.args.gid))
    c.args.entries.now.items c.requires (sym c.in-None.ensures)

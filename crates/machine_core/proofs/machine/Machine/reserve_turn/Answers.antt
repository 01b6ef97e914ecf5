use Rattle.machine_core.proofs.Here.{sees}
use Rattle.machine_core.proofs.Widening.{if_ok, roomier_run, roomier_seen, turn_marks}
use Rattle.machine_core.proofs.machine.Machine.reserve_turn.Goals as goal

pub invariant_of-self-2 : goal.invariant_of-self-2
invariant_of-self-2 c =
    let seen = sees _ c.args.self.now c.self.invariant c.self.view_is in
    roomier_run _ c.args.self.now c.reserve.new.self.events.items c.reserve_marks.new.entries.items _ seen
    c.reserve.ensures.same c.reserve_marks.ensures.same c.reserve.ensures.room

pub returns-clause-mark_room : goal.returns-clause-mark_room
returns-clause-mark_room c =
    let seen = sees _ c.args.self.now c.self.invariant c.self.view_is in
    if_ok c.reserve_marks.result _ _ c.reserve_marks.ensures.room
    (turn_marks _ c.args.self.now c.reserve.new.self.events.items c.reserve_marks.new.entries.items _ seen
    c.reserve.ensures.same c.reserve_marks.ensures.same c.reserve.ensures.room)

pub returns-clause-same : goal.returns-clause-same
returns-clause-same c =
    let seen = sees _ c.args.self.now c.self.invariant c.self.view_is in
    roomier_seen _ c.args.self.now c.reserve.new.self.events.items c.reserve_marks.new.entries.items _ seen
    c.reserve.ensures.same c.reserve_marks.ensures.same c.reserve.ensures.room

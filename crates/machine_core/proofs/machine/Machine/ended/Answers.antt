use Rattle.std.proofs.Common.{◌∙◌, ap, sym}
use Rattle.dl_queue.specs.Calls.{after, QueueCall}
use Rattle.machine_core.specs.MachineViews.{MachineView}
use Rattle.machine_core.proofs.Here.{ends, here, marks_same, sees}
use Rattle.machine_core.proofs.machine.Machine.ended.Goals as goal

pub invariant_of-self : goal.invariant_of-self
invariant_of-self c =
    let seen = sees _ c.args.self.now c.self.invariant c.self.view_is in
    let h = here _ c.args.self.now c.args.gid c.place.result c.unwrap-place.result c.index_mut.result.now seen
    c.place.ensures.found c.unwrap-place.ensures c.index_mut.ensures.value in
    ends c.steps_match_events.ensures.marks _ c.args.self.now c.args.gid c.args.end c.stop.new.self c.unwrap-place.result
    c.index_mut.result.now c.halted.new.self c.add.new.self.events.items _ seen h c.requires.legal
    (c.stop.ensures.state
    ∙ ap (λ (q : QueueCall). after c.self.inside.queue q) (sym (c.status.ensures.status c.args.gid)))
    c.halted.ensures.account c.halted.ensures.rest c.requires.room c.add.ensures.events c.add.ensures.room

pub returns-clause-mark_room : goal.returns-clause-mark_room
returns-clause-mark_room c =
    marks_same c.self.inside.entries.items c.unwrap-place.result c.index_mut.result.now c.halted.new.self
    c.index_mut.ensures.value c.halted.ensures.rest.mark_spare
    ∙ ap (λ (v : MachineView). v.mark_spares) c.self.view_is

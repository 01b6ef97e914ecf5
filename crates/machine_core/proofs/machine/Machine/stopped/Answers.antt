use Rattle.std.proofs.Common.{◌∙◌, ap}
use Rattle.machine_core.specs.MachineViews.{MachineView}
use Rattle.machine_core.proofs.Here.{halted_marks, sees, stops}
use Rattle.machine_core.proofs.machine.Machine.stopped.Goals as goal

pub invariant_of-self : goal.invariant_of-self
invariant_of-self c =
    let seen = sees _ c.args.self.now c.self.invariant c.self.view_is in
    stops _ c.args.self.now c.halt_all.new.entries.items c.add.new.self.events.items _ seen c.halt_all.ensures
    c.requires c.add.ensures.events c.add.ensures.room

pub returns-clause-mark_room : goal.returns-clause-mark_room
returns-clause-mark_room c =
    halted_marks c.self.inside.entries.items c.halt_all.new.entries.items c.halt_all.ensures
    ∙ ap (λ (v : MachineView). v.mark_spares) c.self.view_is

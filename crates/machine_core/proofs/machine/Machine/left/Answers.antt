use Rattle.machine_core.proofs.Here.{leaves, sees}
use Rattle.machine_core.proofs.machine.Machine.left.Goals as goal

pub invariant_of-self : goal.invariant_of-self
invariant_of-self c =
    let seen = sees _ c.args.self.now c.self.invariant c.self.view_is in
    leaves _ c.args.self.now c.add.new.self.events.items _ seen c.requires c.add.ensures.events c.add.ensures.room

use Rattle.machine_core.proofs.Here.{here, sees}
use Rattle.machine_core.proofs.Rooms.{options_here}
use Rattle.machine_core.proofs.machine.Machine.options.Goals as goal

pub returns : goal.returns
returns c =
    let seen = sees _ c.args.self.now c.self.invariant c.self.view_is in
    let h = here _ c.args.self.now c.args.gid c.place.result c.in_ok-place.place c.index.result.now seen
    c.place.ensures.found c.in_ok-place.was c.index.ensures in
    options_here _ c.args.self.now c.args.gid c.in_ok-place.place c.index.result.now seen h

use Rattle.std.proofs.Common.{subst}
use Rattle.machine_core.specs.MachineViews.{MachineView}
use Rattle.machine_core.specs.RunLegal.{IsLegal}
use Rattle.run_lifecycle.proofs.finishing.finish.Goals as goal

pub returns : goal.returns
returns g c = record {
  disk = c.into_parts-disk.ensures.disk;
  journal = c.into_parts-disk.ensures.events;
  legal = subst (λ (m : MachineView). IsLegal m.start m.past) c.machine.ensures c.journal-legal.ensures.legal;
  ends = c.tell-ending.ensures.ends;
}

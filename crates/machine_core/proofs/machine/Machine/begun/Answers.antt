use Rattle.std.proofs.Common.{◌∙◌}
use Rattle.machine_core.proofs.Here.{sees}
use Rattle.machine_core.proofs.WantedRows.{begun_seen}
use Rattle.machine_core.proofs.machine.Machine.begun.Goals as goal

pub returns : goal.returns
returns c =
    let seen = sees _ c.args.self.now c.self.invariant c.self.view_is in
    c.options.ensures ∙ begun_seen _ c.args.self.now c.args.gid seen

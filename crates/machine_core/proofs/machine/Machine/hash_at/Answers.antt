use Rattle.machine_core.proofs.Twins.{hash_by}
use Rattle.machine_core.proofs.machine.Machine.hash_at.Goals as goal

pub returns : goal.returns
returns c =
    hash_by c.args.self.now c.args.place c.adding_event.result.now c.hash_of_event.result c.adding_event.ensures.added
    c.hash_of_event.ensures

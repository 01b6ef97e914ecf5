use Rattle.machine_core.proofs.Keys.{find_is}
use Rattle.machine_core.proofs.keyed.find_keyed.Goals as goal

pub returns : goal.returns
returns c = find_is c.args.queue.now c.args.key c.find.result c.find.ensures

use Rattle.std.proofs.Common.{ap, ◌∙◌}
use Rattle.dl_queue.specs.Lists.{QueueLists}
use Rattle.machine_core.proofs.CallHalts.{all_left}
use Rattle.machine_core.proofs.Leaving.{none_active}
use Rattle.machine_core.proofs.pausing.pause_all.Goals as goal

pub returns-clause-halts : goal.returns-clause-halts
returns-clause-halts c =
    all_left c.args.queue.now c.pause_all.new.self c.args.entries.now.items c.halt_active.new.entries.items
    (ap (λ (q : QueueLists). q.active) c.pause_all.ensures ∙ none_active c.args.queue.now) c.halt_active.ensures

use Rattle.std.proofs.Common.{◌≡◌, true, subst}
use Rattle.std.specs.Prelude.{All}
use Rattle.dl_queue.specs.Calls.{was_added}
use Rattle.dl_queue.specs.Lists.{QueueLists}
use Rattle.dl_queue.proofs.Actives.{active_added}
use Rattle.dl_queue.proofs.Inside.{parts_of}
use Rattle.dl_queue.proofs.queue.Queue.active.Goals as goal

pub returns-clause-added : goal.returns-clause-added
returns-clause-added c =
    subst (λ (v : QueueLists). All (λ gid. was_added v.added gid ≡ true) v.active) c.self.view_is
    (active_added (parts_of c.self.inside) c.self.invariant.parts_are)

use Rattle.std.proofs.Common.{◌≡◌, true}
use Rattle.std.specs.Prelude.{All, find}
use Rattle.dl_queue.specs.Calls.{was_added}
use Rattle.machine_core.specs.KeptOffers.{opens_next}
use Rattle.machine_core.proofs.choosing.first_to_open.Given as goal

abbrev pub invariant-loop-gid : goal.invariant-loop-gid
invariant-loop-gid l = record {
  can : (goal.iterator-loop-gid).can_next l.gid-iterator;
  ends : (goal.iterator-loop-gid).is_finite l.gid-iterator;
  added : All (λ gid. was_added l.queue.added gid ≡ true) l.gid-iterator;
  rest : find (opens_next l.queue.added l.entries.items l.journal.events.items) l.queue.active
      ≡ find (opens_next l.queue.added l.entries.items l.journal.events.items) l.gid-iterator;
}

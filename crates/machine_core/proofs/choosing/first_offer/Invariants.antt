use Rattle.std.proofs.Common.{◌≡◌, map, true}
use Rattle.std.specs.Prelude.{All}
use Rattle.std.specs.List.{list_any}
use Rattle.dl_kinds.specs.declared.gid.Gid.{Gid}
use Rattle.dl_queue.specs.Calls.{was_added}
use Rattle.machine_core.specs.KeptOffers.{IsGidOffer}
use Rattle.machine_core.specs.Offers.{active_credits, gid_credit}
use Rattle.machine_core.specs.Replays.{is_same_gid}
use Rattle.machine_core.proofs.Waits.{IsSoFar}
use Rattle.machine_core.proofs.choosing.first_offer.Given as goal

abbrev pub invariant-loop-gid : goal.invariant-loop-gid
invariant-loop-gid l = record {
  can : (goal.iterator-loop-gid).can_next l.gid-iterator;
  ends : (goal.iterator-loop-gid).is_finite l.gid-iterator;
  added : All (λ gid. was_added l.queue.added gid ≡ true) l.gid-iterator;
  among : (gid : Gid) → list_any (is_same_gid gid) l.gid-iterator ≡ true
      → list_any (is_same_gid gid) l.queue.active ≡ true;
  so_far : IsSoFar
      (IsGidOffer l.queue.added l.entries.items l.journal.events.items l.handed.pieces l.now.0)
      (active_credits l.queue l.limits l.now.0) (map (gid_credit l.queue.added l.limits l.now.0) l.gid-iterator) l.wait;
}

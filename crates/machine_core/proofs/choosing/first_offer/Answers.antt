use Rattle.std.proofs.Common.{◌≡◌, ◌∙◌, ℕ, Some, map, ap, subst, sym}
use Rattle.machine_core.specs.KeptOffers.{IsGidOffer}
use Rattle.machine_core.specs.Offers.{active_credits, affords, gid_credit, least_wait}
use Rattle.machine_core.specs.TurnRooms.{HasClaimRoom}
use Rattle.machine_core.proofs.Answering.{active_has, credit_is, entry_kept, gid_alike, gid_none, head_active, tail_active, wait_is}
use Rattle.machine_core.proofs.Waits.{IsSoFar, asks_afforded, asks_none, asks_unafforded, ends_idle}
use Rattle.machine_core.proofs.Widening.{entry_at, tail_added}
use Rattle.machine_core.proofs.choosing.first_offer.Goals as goal

pub entry_offer-requires-clause-room : goal.entry_offer-requires-clause-room
entry_offer-requires-clause-room c =
    let added = c.args.queue.now.added in
    let xs = c.args.entries.now.items in
    let placed = sym c.unwrap-place.ensures ∙ c.adding_place.ensures in
    active_has HasClaimRoom added xs c.in-Some.gid c.unwrap-place.result c.index.result.now
    (c.requires.room c.in-Some.gid (c.loop-gid.invariant.among c.in-Some.gid
    (head_active c.loop-gid.gid-iterator c.in-Some.gid c.next.new.self c.in-Some.ensures.steps)))
    placed (entry_at added xs c.in-Some.gid c.unwrap-place.result c.index.result.now c.requires.many placed c.index.ensures)

pub returns-then-affords : goal.returns-then-affords
returns-then-affords c =
    let added = c.args.queue.now.added in
    let xs = c.args.entries.now.items in
    let events = c.args.journal.now.events.items in
    let handed = c.args.handed.now.pieces in
    let levels = c.args.limits.now in
    let now = c.args.now.0 in
    let gid = c.in-Some.gid in
    let placed = sym c.unwrap-place.ensures ∙ c.adding_place.ensures in
    let there = entry_at added xs gid c.unwrap-place.result c.index.result.now c.requires.many placed c.index.ensures in
    let kept = entry_kept added xs gid c.unwrap-place.result c.index.result.now placed there in
    let offer = c.in-Some-entry_offer.offer in
    asks_afforded (IsGidOffer added xs events handed now) (active_credits c.args.queue.now levels now)
    (map (gid_credit added levels now) c.loop-gid.gid-iterator) (gid_credit added levels now gid)
    (map (gid_credit added levels now) c.next.new.self) c.loop-gid.wait offer
    (ap (map (gid_credit added levels now)) c.in-Some.ensures.steps)
    (record { entry = c.index.result.now; there = kept; is = c.in-Some-entry_offer.ensures.offer })
    (ap (λ (n : ℕ). affords n offer) (sym (credit_is added levels now gid c.unwrap-place.result c.credit.result placed
    c.credit.ensures))
    ∙ (sym c.affords.ensures ∙ c.if-affords.true))
    c.loop-gid.invariant.so_far

pub loop-gid-preserved-in-Some-entry_offer : goal.loop-gid-preserved-in-Some-entry_offer
loop-gid-preserved-in-Some-entry_offer c =
    let added = c.args.queue.now.added in
    let xs = c.args.entries.now.items in
    let events = c.args.journal.now.events.items in
    let handed = c.args.handed.now.pieces in
    let levels = c.args.limits.now in
    let now = c.args.now.0 in
    let gid = c.in-Some.gid in
    let placed = sym c.unwrap-place.ensures ∙ c.adding_place.ensures in
    let there = entry_at added xs gid c.unwrap-place.result c.index.result.now c.requires.many placed c.index.ensures in
    let kept = entry_kept added xs gid c.unwrap-place.result c.index.result.now placed there in
    let offer = c.in-Some-entry_offer.offer in
    let credit = gid_credit added levels now gid in
    let all = active_credits c.args.queue.now levels now in
    let rest = map (gid_credit added levels now) c.next.new.self in
    let least : c.least.result ≡ least_wait c.loop-gid.wait credit.wait =
    c.least.ensures
    ∙ ap (least_wait c.loop-gid.wait) (wait_is added levels now gid c.unwrap-place.result c.wait.result placed
    c.wait.ensures.value) in
    record {
      can = tt;
      ends = tt;
      added = tail_added added gid c.loop-gid.gid-iterator c.next.new.self c.in-Some.ensures.steps
          c.loop-gid.invariant.added;
      among = tail_active c.args.queue.now.active c.loop-gid.gid-iterator gid c.next.new.self c.in-Some.ensures.steps
          c.loop-gid.invariant.among;
      so_far = subst (λ (w : ℕ). IsSoFar (IsGidOffer added xs events handed now) all rest (Some w)) (sym least)
          (asks_unafforded (IsGidOffer added xs events handed now) all
          (map (gid_credit added levels now) c.loop-gid.gid-iterator) credit rest c.loop-gid.wait offer
          (ap (map (gid_credit added levels now)) c.in-Some.ensures.steps)
          (record { entry = c.index.result.now; there = kept; is = c.in-Some-entry_offer.ensures.offer })
          (λ other its. gid_alike added xs events handed now credit.bytes gid c.index.result.now offer other kept
          c.in-Some-entry_offer.ensures.offer its)
          (ap (λ (n : ℕ). affords n offer) (sym (credit_is added levels now gid c.unwrap-place.result c.credit.result
          placed c.credit.ensures))
          ∙ (sym c.affords.ensures ∙ c.if-affords.false))
          c.loop-gid.invariant.so_far);
    }

pub loop-gid-preserved : goal.loop-gid-preserved
loop-gid-preserved c =
    let added = c.args.queue.now.added in
    let xs = c.args.entries.now.items in
    let events = c.args.journal.now.events.items in
    let handed = c.args.handed.now.pieces in
    let levels = c.args.limits.now in
    let now = c.args.now.0 in
    let gid = c.in-Some.gid in
    let placed = sym c.unwrap-place.ensures ∙ c.adding_place.ensures in
    let there = entry_at added xs gid c.unwrap-place.result c.index.result.now c.requires.many placed c.index.ensures in
    let kept = entry_kept added xs gid c.unwrap-place.result c.index.result.now placed there in
    record {
      can = tt;
      ends = tt;
      added = tail_added added gid c.loop-gid.gid-iterator c.next.new.self c.in-Some.ensures.steps
          c.loop-gid.invariant.added;
      among = tail_active c.args.queue.now.active c.loop-gid.gid-iterator gid c.next.new.self c.in-Some.ensures.steps
          c.loop-gid.invariant.among;
      so_far = asks_none (IsGidOffer added xs events handed now) (active_credits c.args.queue.now levels now)
          (map (gid_credit added levels now) c.loop-gid.gid-iterator) (gid_credit added levels now gid)
          (map (gid_credit added levels now) c.next.new.self) c.loop-gid.wait
          (ap (map (gid_credit added levels now)) c.in-Some.ensures.steps)
          (gid_none added xs events handed now gid c.index.result.now kept c.in-None-entry_offer.ensures.none)
          c.loop-gid.invariant.so_far;
    }

pub returns-in-None-wait : goal.returns-in-None-wait
returns-in-None-wait c =
    let added = c.args.queue.now.added in
    let levels = c.args.limits.now in
    let now = c.args.now.0 in
    ends_idle (IsGidOffer added c.args.entries.now.items c.args.journal.now.events.items c.args.handed.now.pieces now)
    (active_credits c.args.queue.now levels now) (map (gid_credit added levels now) c.loop-gid.gid-iterator)
    c.loop-gid.wait (ap (map (gid_credit added levels now)) c.in-None.ensures.steps.0) c.in-None-wait.is
    c.loop-gid.invariant.so_far

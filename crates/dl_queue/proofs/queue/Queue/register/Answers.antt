use Rattle.std.proofs.Common.{◌≡◌, ◌∙◌, ◌+◌, ◌++◌, ◌∷◌, ◌==◌, [], ◌<◌, ◌≤◌, ℕ, cond, Some, None, List, Option, length, true, false, sym, ap, subst, arith, length-append}
use Rattle.dl_kinds.specs.declared.gid.Gid.{Gid}
use Rattle.dl_kinds.specs.declared.status.Status.{Status}
use Rattle.dl_queue.specs.declared.kinds.Added.{Added}
use Rattle.dl_queue.specs.Lists.{QueueLists}
use Rattle.dl_queue.specs.Places.{status_of}
use Rattle.dl_queue.specs.Calls.{was_added}
use Rattle.dl_queue.specs.Held.{number_in, lists_of, QueueParts, AreParts}
use Rattle.dl_queue.proofs.Inside.{parts_of, same_parts}
use Rattle.dl_queue.proofs.Additions.{Registered, registered, number_push}
use Rattle.dl_queue.proofs.queue.Queue.register.Goals as goal
use Rattle.dl_queue.proofs.queue.Queue.register.Goals.{After-push_reserved-2}

abbrev now : After-push_reserved-2 → QueueParts
now c = record {
  added = c.push_reserved.new.self.items;
  standings = c.push_reserved-2.new.self.items;
  active = c.reserve_lists.new.active.order;
  waiting = c.reserve_lists.new.waiting.order;
  ready = c.reserve_lists.new.ready.order;
  stopped = c.reserve_lists.new.stopped.order;
}

abbrev new : After-push_reserved-2 → Added
new c = record { gid = c.args.gid; options = c.args.options }

abbrev next : After-push_reserved-2 → QueueParts
next c = record (parts_of c.self.inside) {
  added = c.self.inside.added.items ++ new c ∷ [];
  standings = c.self.inside.standings.items ++ None ∷ [];
}

items : (c : After-push_reserved-2) → c.push_reserved.new.self.items ≡ c.self.inside.added.items ++ new c ∷ []
items c = c.push_reserved.ensures.items ∙ ap (λ (l : List Added). l ++ new c ∷ []) c.reserve.ensures.items

same : (c : After-push_reserved-2) → now c ≡ next c
same c =
    same_parts _ _ _ _ _ _ _ _ _ _ _ _ (items c)
    (c.push_reserved-2.ensures.items ∙ ap (λ (l : List (Option Status)). l ++ None ∷ []) c.reserve-2.ensures.items)
    c.reserve_lists.ensures.active.order c.reserve_lists.ensures.waiting.order c.reserve_lists.ensures.ready.order
    c.reserve_lists.ensures.stopped.order

fresh : (c : After-push_reserved-2) → was_added c.self.inside.added.items c.args.gid ≡ false
fresh c = ap (λ (v : QueueLists). was_added v.added c.args.gid) c.self.view_is ∙ c.requires.fresh

made : (c : After-push_reserved-2) → Registered c.self.inside.limit (next c)
    record (lists_of c.self.inside.limit (parts_of c.self.inside)) { added = c.self.inside.added.items ++ new c ∷ [] } c.args.gid
made c =
    let few = ap (λ (v : QueueLists). length v.added) c.self.view_is in
    registered c.self.inside.limit (parts_of c.self.inside) (new c) c.self.invariant.parts_are (fresh c) (omega (arith, few, c.requires.room))

pub invariant_of-self-2 : goal.invariant_of-self-2
invariant_of-self-2 c =
    let here = (goal.at.invariant_of-self-2 c).After-push_reserved-2 in
    let added = c.self.inside.added.items in
    let len = ap length (items here) in
    let more = length-append added (new here ∷ []) in
    record {
      parts_are = subst AreParts (sym (same here)) (made here).parts_are;
      numbers_are = λ gid.
          c.in_ok-give_number.ensures.ok gid.0
          ∙ ap (λ o. cond (c.args.gid.0 == gid.0) (Some (c.len-count.result + 1)) o) (c.self.invariant.numbers_are gid)
          ∙ ap (λ n. cond (c.args.gid.0 == gid.0) (Some (n + 1)) (number_in added gid)) (let many : c.len-count.result ≡ length added = omega (arith, c.len-count.ensures) in many)
          ∙ sym (number_push added (new here) gid (fresh here))
          ∙ ap (λ (l : List Added). number_in l gid) (sym (items here));
      active_takes = λ _. omega (arith, len, more, c.in_ok-reserve_lists.ensures.active_ok, c.len-count.ensures);
      waiting_takes = λ _. omega (arith, len, more, c.in_ok-reserve_lists.ensures.waiting_ok, c.len-count.ensures);
      ready_takes = λ _. omega (arith, len, more, c.in_ok-reserve_lists.ensures.ready_ok, c.len-count.ensures);
      stopped_takes = λ _. omega (arith, len, more, c.in_ok-reserve_lists.ensures.stopped_ok, c.len-count.ensures);
    }

pub returns-clause-state : goal.returns-clause-state
returns-clause-state c =
    let here = (goal.at.returns-clause-state c).After-push_reserved-2 in
    ap (lists_of c.self.inside.limit) (same here) ∙ (made here).lists_are
    ∙ ap (λ (v : QueueLists). record v { added = v.added ++ new here ∷ [] }) c.self.view_is

pub returns-clause-known : goal.returns-clause-known
returns-clause-known c =
    let here = (goal.at.returns-clause-known c).After-push_reserved-2 in
    ap (λ (l : List Added). was_added l c.args.gid) (items here) ∙ (made here).known

pub returns-clause-stands : goal.returns-clause-stands
returns-clause-stands c =
    let here = (goal.at.returns-clause-stands c).After-push_reserved-2 in
    ap (λ (p : QueueParts). status_of (lists_of c.self.inside.limit p) c.args.gid) (same here) ∙ (made here).status

use Rattle.std.proofs.Common.{◌≡◌, ℕ, ◌∙◌, ◌-◌, ◌+◌, ◌<◌, ◌≤◌, ◌*◌, ◌++◌, ◌∷◌, [], Some, None, List, Bool, Option, length, map, true, false, sym, ap, subst, arith, cond, refl, get_or, option_copied}
use Rattle.std.specs.Prelude.{remove, slice_get}
use Rattle.dl_kinds.specs.declared.gid.Gid.{Gid}
use Rattle.dl_kinds.specs.declared.status.Status.{Status}
use Rattle.number_list.specs.Order.{NumberOrder, lists_number, number_place}
use Rattle.dl_queue.specs.declared.kinds.Added.{Added}
use Rattle.dl_queue.specs.declared.kinds.TheConstants.{MAX_DOWNLOADS}
use Rattle.dl_queue.specs.Lists.{QueueLists}
use Rattle.dl_queue.specs.Places.{queued_place, status_of}
use Rattle.dl_queue.specs.Calls.{options_in}
use Rattle.dl_queue.specs.Held.{number_in, gid_numbered, lists_of, standing_at, stands_queued, queued_download}
use Rattle.dl_queue.specs.Named.{AreNamed, AreNamedIn}
use Rattle.dl_queue.specs.NextUp.{IsNextUp, MovesUp}
use Rattle.dl_queue.proofs.Inside.{parts_of, placed, seen_so}
use Rattle.dl_queue.proofs.Standing.{number_is, status_is, queued_place_is, place_tells, active_numbers, waiting_numbers, stopped_numbers, of_added}
use Rattle.dl_queue.proofs.Wholes.{few_active, few_waiting, few_stopped, named_count, all_in_queue}
use Rattle.dl_queue.proofs.queue.Queue.named.Goals as goal

pub all_named-active-requires-clause-few : goal.all_named-active-requires-clause-few
all_named-active-requires-clause-few c =
    let few = few_active (parts_of c.self.inside) c.self.invariant.parts_are in omega (arith, few, ap length c.iter.ensures)

pub all_named-queued-requires-clause-few : goal.all_named-queued-requires-clause-few
all_named-queued-requires-clause-few c =
    let few = few_waiting (parts_of c.self.inside) c.self.invariant.parts_are in omega (arith, few, ap length c.iter-2.ensures)

pub all_named-stopped-requires-clause-few : goal.all_named-stopped-requires-clause-few
all_named-stopped-requires-clause-few c =
    let few = few_stopped (parts_of c.self.inside) c.self.invariant.parts_are in omega (arith, few, ap length c.iter-3.ensures)

pub returns : goal.returns
returns c =
    let parts = parts_of c.self.inside in
    let first = subst (λ (l : List Added). AreNamed l c.args.key c.self.inside.active.order c.all_named-active.result) c.deref.ensures.value
    (subst (λ (l : List ℕ). AreNamed c.deref.result.now c.args.key l c.all_named-active.result) c.iter.ensures c.all_named-active.ensures.named) in
    let second = subst (λ (l : List Added). AreNamed l c.args.key c.self.inside.waiting.order c.all_named-queued.result) c.deref-2.ensures.value
    (subst (λ (l : List ℕ). AreNamed c.deref-2.result.now c.args.key l c.all_named-queued.result) c.iter-2.ensures c.all_named-queued.ensures.named) in
    let third = subst (λ (l : List Added). AreNamed l c.args.key c.self.inside.stopped.order c.all_named-stopped.result) c.deref-3.ensures.value
    (subst (λ (l : List ℕ). AreNamed c.deref-3.result.now c.args.key l c.all_named-stopped.result) c.iter-3.ensures c.all_named-stopped.ensures.named) in
    subst (λ (v : QueueLists). AreNamedIn v c.args.key c.and-2.result) c.self.view_is
    (all_in_queue c.self.inside.limit parts c.self.invariant.parts_are c.args.key c.all_named-active.result c.all_named-queued.result
    c.all_named-stopped.result c.and.result c.and-2.result first second third
    record { count = c.and.ensures.count; number = c.and.ensures.number }
    record { count = c.and-2.ensures.count; number = c.and-2.ensures.number })

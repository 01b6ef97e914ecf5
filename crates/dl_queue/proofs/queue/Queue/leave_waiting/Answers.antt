use Rattle.std.proofs.Common.{◌≡◌, ◌∙◌, ◌-◌, ◌+◌, ◌++◌, ◌∷◌, [], ◌<◌, ◌≤◌, Some, None, List, Bool, Option, length, true, false, sym, ap, arith, cond, refl}
use Rattle.std.specs.Prelude.{remove, insert, slice_set}
use Rattle.dl_kinds.specs.declared.status.Status.{Status}
use Rattle.dl_kinds.specs.declared.status.Status.TheVariants.{Active, Waiting, Paused}
use Rattle.number_list.specs.Order.{NumberOrder, lists_number, number_place}
use Rattle.dl_queue.specs.declared.kinds.Queued.{Queued}
use Rattle.dl_queue.specs.declared.kinds.Stopped.{Stopped}
use Rattle.dl_queue.specs.Lists.{QueueLists}
use Rattle.dl_queue.specs.Endings.{ended_status}
use Rattle.dl_queue.specs.Places.{active_place, queued_place, stopped_place, status_of}
use Rattle.dl_queue.specs.Calls.{with_pause}
use Rattle.dl_queue.specs.Held.{lists_of, standing_at, stands_active, stands_queued, stands_ready, stands_stopped}
use Rattle.dl_queue.proofs.Inside.{parts_of, placed, seen, seen_so}
use Rattle.dl_queue.proofs.Standing.{status_is}
use Rattle.dl_queue.proofs.Steps.{Place, within, stood, Became, left_waiting}
use Rattle.dl_queue.proofs.Readies.{listed_passing}
use Rattle.dl_queue.proofs.queue.Queue.leave_waiting.Goals as goal
use Rattle.dl_queue.proofs.queue.Queue.leave_waiting.Goals.{After-number_of-number, After-is_ready-waits, After-numbers_differ}

at : (c : After-number_of-number) → Place c.self.inside.limit (parts_of c.self.inside) c.args.gid c.number_of-number.result
at c =
    placed c.self.inside c.args.self.now c.args.gid c.number_of-number.result c.self.view_is c.self.invariant.parts_are
    c.number_of-number.ensures

in_all : (c : After-number_of-number) → c.number_of-number.result - 1 < length c.self.inside.standings.items
in_all c =
    let most = within c.self.inside.limit (parts_of c.self.inside) c.args.gid c.number_of-number.result (at c) in
    omega (arith, most, (at c).its.counts)

there : (c : After-number_of-number) → lists_number c.self.inside.waiting.order c.number_of-number.result ≡ true
there c =
    c.self.invariant.parts_are.waiting_are c.number_of-number.result (at c).its.counts
    ∙ ap stands_queued (sym (status_is c.self.inside.limit (parts_of c.self.inside) c.self.invariant.parts_are c.args.gid
    c.number_of-number.result (at c).its))
    ∙ seen_so stands_queued c.self.inside c.args.self.now c.args.gid c.self.view_is c.requires.stands

ready_before : (c : After-is_ready-waits) → c.is_ready-waits.result ≡ stands_ready (standing_at c.self.inside.standings.items c.number_of-number.result)
ready_before c =
    c.is_ready-waits.ensures ∙ ap stands_ready (c.standing_of.ensures
    ∙ ap (λ (l : List (Option Status)). standing_at l c.number_of-number.result) c.deref.ensures.value)

became : (c : After-numbers_differ) → Place c.self.inside.limit (parts_of c.self.inside) c.args.gid c.number_of-number.result
    → c.is_ready-waits.result ≡ stands_ready (standing_at c.self.inside.standings.items c.number_of-number.result)
    → Became c.self.inside.limit
    record (parts_of c.self.inside) {
      waiting = c.remove.new.self.order;
      ready = c.remove_if.new.list.order;
      standings = slice_set c.self.inside.standings.items (c.number_of-number.result - 1) None;
    }
    record (lists_of c.self.inside.limit (parts_of c.self.inside)) {
      waiting = remove (lists_of c.self.inside.limit (parts_of c.self.inside)).waiting
          (queued_place c.args.gid (lists_of c.self.inside.limit (parts_of c.self.inside)).waiting);
    } c.args.gid None
became c place waits =
    left_waiting c.self.inside.limit (parts_of c.self.inside) c.args.gid c.number_of-number.result c.remove.new.self.order
    c.remove_if.new.list.order place
    (seen_so stands_queued c.self.inside c.args.self.now c.args.gid c.self.view_is c.requires.stands)
    (ap (λ (l : NumberOrder). l.order) c.remove.ensures.value) c.numbers_differ.ensures c.remove.ensures.listed
    (ap (λ (l : NumberOrder). l.order) c.remove_if.ensures
    ∙ chosen c.is_ready-waits.result c.self.inside.ready
    ∙ ap (λ b. cond b (remove c.self.inside.ready.order (number_place c.self.inside.ready.order c.number_of-number.result))
    c.self.inside.ready.order) waits) where
      chosen : (b : Bool) (l : NumberOrder) → (cond b record l { order = remove l.order (number_place l.order c.number_of-number.result) } l).order
          ≡ cond b (remove l.order (number_place l.order c.number_of-number.result)) l.order
      chosen true l = refl
      chosen false l = refl

pub standing_of-requires-clause-counts : goal.standing_of-requires-clause-counts
standing_of-requires-clause-counts c = (at (goal.at.standing_of-requires-clause-counts c).After-number_of-number).its.counts

pub standing_of-requires-clause-within : goal.standing_of-requires-clause-within
standing_of-requires-clause-within c =
    let least = in_all (goal.at.standing_of-requires-clause-within c).After-number_of-number in
    omega (arith, least, c.deref.ensures.len)

pub remove_if-requires : goal.remove_if-requires
remove_if-requires c = λ waits.
    let here = (goal.at.remove_if-requires c).After-number_of-number in
    ap (λ l. lists_number l c.number_of-number.result) c.self.invariant.parts_are.ready_are
    ∙ listed_passing (λ m. stands_ready (standing_at c.self.inside.standings.items m)) c.self.inside.waiting.order c.number_of-number.result
    (there here) (sym (ready_before (goal.at.remove_if-requires c).After-is_ready-waits) ∙ waits)

pub remove-requires : goal.remove-requires
remove-requires c = there (goal.at.remove-requires c).After-number_of-number

pub index_mut-requires : goal.index_mut-requires
index_mut-requires c = let least = in_all (goal.at.index_mut-requires c).After-number_of-number in omega (arith, least)

pub invariant_of-self : goal.invariant_of-self
invariant_of-self c =
    let held = c.self.invariant in
    let bound = ap (λ (l : NumberOrder). l.bound) c.remove.ensures.value in
    let ready = ap (λ (l : NumberOrder). l.bound) c.remove_if.ensures ∙ same_bound c.is_ready-waits.result c.self.inside.ready in
    record {
      parts_are = (became (goal.at.invariant_of-self c).After-numbers_differ (at (goal.at.invariant_of-self c).After-number_of-number)
          (ready_before (goal.at.invariant_of-self c).After-is_ready-waits)).parts_are;
      numbers_are = held.numbers_are;
      active_takes = held.active_takes;
      waiting_takes = λ some. let it = held.waiting_takes some in omega (arith, it, bound);
      ready_takes = λ some. let it = held.ready_takes some in omega (arith, it, ready);
      stopped_takes = held.stopped_takes;
    } where
      same_bound : (b : Bool) (l : NumberOrder) → (cond b record l { order = remove l.order (number_place l.order c.number_of-number.result) } l).bound
          ≡ l.bound
      same_bound true l = refl
      same_bound false l = refl

pub returns-clause-lists : goal.returns-clause-lists
returns-clause-lists c =
    (became (goal.at.returns-clause-lists c).After-numbers_differ (at (goal.at.returns-clause-lists c).After-number_of-number)
    (ready_before (goal.at.returns-clause-lists c).After-is_ready-waits)).lists_are
    ∙ ap (λ (v : QueueLists). record v { waiting = remove v.waiting (queued_place c.args.gid v.waiting) }) c.self.view_is

pub returns-clause-gone : goal.returns-clause-gone
returns-clause-gone c =
    (became (goal.at.returns-clause-gone c).After-numbers_differ (at (goal.at.returns-clause-gone c).After-number_of-number)
    (ready_before (goal.at.returns-clause-gone c).After-is_ready-waits)).status

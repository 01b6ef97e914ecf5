use Rattle.std.proofs.Common.{◌≡◌, ◌∙◌, ◌-◌, ◌+◌, ◌++◌, ◌∷◌, [], ◌<◌, ◌≤◌, Some, None, List, Bool, Option, length, take, drop, filter, find, unwrap_or, true, false, sym, ap, arith, cond, refl}
use Rattle.std.specs.Prelude.{remove, insert, slice_set, slice_get}
use Rattle.std.proofs.lemmas.List.{length-map}
use Rattle.dl_kinds.specs.declared.status.Status.{Status}
use Rattle.dl_kinds.specs.declared.status.Status.TheVariants.{Active, Waiting, Paused}
use Rattle.number_list.specs.Order.{NumberOrder, lists_number, number_place, is_listed_or_end}
use Rattle.dl_queue.specs.declared.kinds.Queued.{Queued}
use Rattle.dl_queue.specs.declared.kinds.Stopped.{Stopped}
use Rattle.dl_queue.specs.Lists.{QueueLists}
use Rattle.dl_queue.specs.Endings.{ended_status}
use Rattle.dl_queue.specs.Places.{active_place, queued_place, stopped_place, status_of}
use Rattle.dl_queue.specs.Calls.{with_pause}
use Rattle.dl_queue.specs.Held.{AreNumbersOf, lists_of, standing_at, stands_active, stands_queued, stands_ready, stands_stopped, queued_download}
use Rattle.dl_queue.proofs.Inside.{parts_of, placed, seen, seen_so}
use Rattle.dl_queue.proofs.Standing.{status_is}
use Rattle.dl_queue.proofs.Steps.{Place, within, stood, Became, came_paused, came_ready, OtherAt, other_first, other_behind}
use Rattle.dl_queue.proofs.Standing.{waiting_numbers}
use Rattle.dl_queue.proofs.Readies.{passing_fresh, dropped_listed, behind_inserted, inserted_listed, first_place, first_is_listed, ready_place, ready_is_listed}
use Rattle.dl_queue.proofs.queue.Queue.enter_waiting.Goals as goal
use Rattle.dl_queue.proofs.queue.Queue.enter_waiting.Goals.{After-number_of-number, After-numbers_differ, After-insert_before, then-place-eq0, else-place-eq0}

at : (c : After-number_of-number) → Place c.self.inside.limit (parts_of c.self.inside) c.args.gid c.number_of-number.result
at c =
    placed c.self.inside c.args.self.now c.args.gid c.number_of-number.result c.self.view_is c.self.invariant.parts_are
    c.number_of-number.ensures

in_all : (c : After-number_of-number) → c.number_of-number.result - 1 < length c.self.inside.standings.items
in_all c =
    let most = within c.self.inside.limit (parts_of c.self.inside) c.args.gid c.number_of-number.result (at c) in
    omega (arith, most, (at c).its.counts)

fresh : (c : After-number_of-number) → lists_number c.self.inside.waiting.order c.number_of-number.result ≡ false
fresh c =
    c.self.invariant.parts_are.waiting_are c.number_of-number.result (at c).its.counts
    ∙ ap stands_queued (sym (status_is c.self.inside.limit (parts_of c.self.inside) c.self.invariant.parts_are c.args.gid
    c.number_of-number.result (at c).its) ∙ seen c.self.inside c.args.self.now c.args.gid None c.self.view_is c.requires.stands)

some : (c : After-number_of-number) → 0 < length c.self.inside.added.items
some c = omega (arith, (at c).its.counts, (at c).its.within)

most : (c : After-number_of-number) → c.args.place ≤ length c.self.inside.waiting.order
most c =
    let same = ap (λ (v : QueueLists). length v.waiting) c.self.view_is in
    let len = length-map c.self.inside.waiting.order (queued_download c.self.inside.added.items c.self.inside.standings.items) in
    omega (arith, same, len, c.requires.place)

pub insert-requires-clause-within : goal.insert-requires-clause-within
insert-requires-clause-within c =
    let here = (goal.at.insert-requires-clause-within c).After-number_of-number in
    let least = c.self.invariant.waiting_takes (some here) in
    omega (arith, least, (at here).its.within)

pub insert-requires-clause-counts : goal.insert-requires-clause-counts
insert-requires-clause-counts c = (at (goal.at.insert-requires-clause-counts c).After-number_of-number).its.counts

pub insert-requires-clause-fresh : goal.insert-requires-clause-fresh
insert-requires-clause-fresh c = fresh (goal.at.insert-requires-clause-fresh c).After-number_of-number

pub insert-requires-clause-place : goal.insert-requires-clause-place
insert-requires-clause-place c = most (goal.at.insert-requires-clause-place c).After-number_of-number

-- paused
paused : (c : After-numbers_differ) → Place c.self.inside.limit (parts_of c.self.inside) c.args.gid c.number_of-number.result
    → Became c.self.inside.limit
    record (parts_of c.self.inside) {
      waiting = c.insert.new.self.order;
      standings = slice_set c.self.inside.standings.items (c.number_of-number.result - 1) (Some Paused);
    }
    record (lists_of c.self.inside.limit (parts_of c.self.inside)) {
      waiting = insert (lists_of c.self.inside.limit (parts_of c.self.inside)).waiting c.args.place
          record { gid = c.args.gid; paused = true };
    } c.args.gid (Some Paused)
paused c place =
    came_paused c.self.inside.limit (parts_of c.self.inside) c.args.gid c.number_of-number.result c.insert.new.self.order c.args.place
    place
    (seen c.self.inside c.args.self.now c.args.gid None c.self.view_is c.requires.stands)
    (ap (λ (l : NumberOrder). l.order) c.insert.ensures.value) c.numbers_differ.ensures c.insert.ensures.listed

pub invariant_of-self : goal.invariant_of-self
invariant_of-self c =
    let held = c.self.invariant in
    let bound = ap (λ (l : NumberOrder). l.bound) c.insert.ensures.value in
    record {
      parts_are = (paused (goal.at.invariant_of-self c).After-numbers_differ (at (goal.at.invariant_of-self c).After-number_of-number)).parts_are;
      numbers_are = held.numbers_are;
      active_takes = held.active_takes;
      waiting_takes = λ some. let it = held.waiting_takes some in omega (arith, it, bound);
      ready_takes = held.ready_takes;
      stopped_takes = held.stopped_takes;
    }

pub returns-then-paused : goal.returns-then-paused
returns-then-paused c =
    (paused (goal.at.returns-then-paused c).After-numbers_differ (at (goal.at.returns-then-paused c).After-number_of-number)).lists_are
    ∙ ap (λ (v : QueueLists). record v { waiting = insert v.waiting c.args.place record { gid = c.args.gid; paused = true } }) c.self.view_is
    ∙ ap (λ (b : Bool). record c.args.self.now { waiting = insert c.args.self.now.waiting c.args.place record { gid = c.args.gid; paused = b } })
    (sym c.if-paused.true)

-- behind the download
behind : (c : After-numbers_differ) → lists_number c.self.inside.waiting.order c.number_of-number.result ≡ false
    → c.args.place ≤ length c.self.inside.waiting.order
    → drop (number_place c.insert.new.self.order c.number_of-number.result + 1) c.insert.new.self.order
    ≡ drop c.args.place c.self.inside.waiting.order
behind c new within =
    ap (λ (l : NumberOrder). drop (number_place l.order c.number_of-number.result + 1) l.order) c.insert.ensures.value
    ∙ behind_inserted c.self.inside.waiting.order c.args.place c.number_of-number.result new within

pub first_ready-other-requires : goal.first_ready-other-requires
first_ready-other-requires c = λ m listed.
    let here = (goal.at.first_ready-other-requires c).After-number_of-number in
    let rest = behind (goal.at.first_ready-other-requires c).After-numbers_differ (fresh here) (most here) in
    let it = waiting_numbers (parts_of c.self.inside) c.self.invariant.parts_are m
    (dropped_listed c.self.inside.waiting.order c.args.place m
    (sym (ap (λ l. lists_number l m) (c.iter_behind.ensures ∙ rest)) ∙ listed)) in
    (it.0, omega (arith, it.1, c.deref.ensures.len))

pub insert_before-requires-clause-other : goal.insert_before-requires-clause-other
insert_before-requires-clause-other c =
    let here = (goal.at.insert_before-requires-clause-other c).After-number_of-number in
    let rest = behind (goal.at.insert_before-requires-clause-other c).After-numbers_differ (fresh here) (most here) in
    let other : OtherAt (parts_of c.self.inside) c.args.place c.if-place-eq0.other = elim c.if-place-eq0.branch [
      | then-place-eq0 w ↦ other_first (parts_of c.self.inside) c.if-place-eq0.other c.args.place
          (w.other-is ∙ w.unwrap_or-other.ensures ∙ ap (λ o. unwrap_or o 0) w.first.ensures.value) w.if-place-eq0.true
      | else-place-eq0 w ↦ other_behind (parts_of c.self.inside) c.self.invariant.parts_are c.if-place-eq0.other c.args.place
          (w.other-is ∙ w.first_ready-other.ensures
          ∙ ap (λ l. unwrap_or (find (λ m. stands_ready (standing_at w.deref.result.now m)) l) 0) (w.iter_behind.ensures ∙ rest)
          ∙ ap (λ (s : List (Option Status)). unwrap_or (find (λ m. stands_ready (standing_at s m)) (drop c.args.place c.self.inside.waiting.order)) 0)
          w.deref.ensures.value)
    ] in
    other.listed

pub insert_before-requires-clause-fresh : goal.insert_before-requires-clause-fresh
insert_before-requires-clause-fresh c =
    let here = (goal.at.insert_before-requires-clause-fresh c).After-number_of-number in
    ap (λ l. lists_number l c.number_of-number.result) c.self.invariant.parts_are.ready_are
    ∙ passing_fresh (λ m. stands_ready (standing_at c.self.inside.standings.items m)) c.self.inside.waiting.order c.number_of-number.result
    (fresh here)

ready : (c : After-insert_before) → Place c.self.inside.limit (parts_of c.self.inside) c.args.gid c.number_of-number.result
    → drop (number_place c.insert.new.self.order c.number_of-number.result + 1) c.insert.new.self.order
    ≡ drop c.args.place c.self.inside.waiting.order
    → c.args.place ≤ length c.self.inside.waiting.order
    → Became c.self.inside.limit
    record (parts_of c.self.inside) {
      waiting = c.insert.new.self.order;
      ready = c.insert_before.new.self.order;
      standings = slice_set c.self.inside.standings.items (c.number_of-number.result - 1) (Some Waiting);
    }
    record (lists_of c.self.inside.limit (parts_of c.self.inside)) {
      waiting = insert (lists_of c.self.inside.limit (parts_of c.self.inside)).waiting c.args.place
          record { gid = c.args.gid; paused = false };
    } c.args.gid (Some Waiting)
ready c place rest within_all =
    let other : OtherAt (parts_of c.self.inside) c.args.place c.if-place-eq0.other = elim c.if-place-eq0.branch [
      | then-place-eq0 w ↦ other_first (parts_of c.self.inside) c.if-place-eq0.other c.args.place
          (w.other-is ∙ w.unwrap_or-other.ensures ∙ ap (λ o. unwrap_or o 0) w.first.ensures.value) w.if-place-eq0.true
      | else-place-eq0 w ↦ other_behind (parts_of c.self.inside) c.self.invariant.parts_are c.if-place-eq0.other c.args.place
          (w.other-is ∙ w.first_ready-other.ensures
          ∙ ap (λ l. unwrap_or (find (λ m. stands_ready (standing_at w.deref.result.now m)) l) 0) (w.iter_behind.ensures ∙ rest)
          ∙ ap (λ (s : List (Option Status)). unwrap_or (find (λ m. stands_ready (standing_at s m)) (drop c.args.place c.self.inside.waiting.order)) 0)
          w.deref.ensures.value)
    ] in
    came_ready c.self.inside.limit (parts_of c.self.inside) c.args.gid c.number_of-number.result c.insert.new.self.order
    c.insert_before.new.self.order c.args.place c.if-place-eq0.other place
    (seen c.self.inside c.args.self.now c.args.gid None c.self.view_is c.requires.stands)
    (ap (λ (l : NumberOrder). l.order) c.insert.ensures.value) within_all c.numbers_differ.ensures c.insert.ensures.listed
    (ap (λ (l : NumberOrder). l.order) c.insert_before.ensures.value) other.place

pub invariant_of-self-2 : goal.invariant_of-self-2
invariant_of-self-2 c =
    let held = c.self.invariant in
    let here = (goal.at.invariant_of-self-2 c).After-number_of-number in
    let bound = ap (λ (l : NumberOrder). l.bound) c.insert.ensures.value in
    let ready_bound = ap (λ (l : NumberOrder). l.bound) c.insert_before.ensures.value in
    record {
      parts_are = (ready (goal.at.invariant_of-self-2 c).After-insert_before (at here)
          (behind (goal.at.invariant_of-self-2 c).After-numbers_differ (fresh here) (most here)) (most here)).parts_are;
      numbers_are = held.numbers_are;
      active_takes = held.active_takes;
      waiting_takes = λ some. let it = held.waiting_takes some in omega (arith, it, bound);
      ready_takes = λ some. let it = held.ready_takes some in omega (arith, it, ready_bound);
      stopped_takes = held.stopped_takes;
    }

pub returns : goal.returns
returns c =
    let here = (goal.at.returns c).After-number_of-number in
    (ready (goal.at.returns c).After-insert_before (at here)
    (behind (goal.at.returns c).After-numbers_differ (fresh here) (most here)) (most here)).lists_are
    ∙ ap (λ (v : QueueLists). record v { waiting = insert v.waiting c.args.place record { gid = c.args.gid; paused = false } }) c.self.view_is
    ∙ ap (λ (b : Bool). record c.args.self.now { waiting = insert c.args.self.now.waiting c.args.place record { gid = c.args.gid; paused = b } })
    (sym c.if-paused.false)

use Rattle.std.proofs.Common.{◌≡◌, ◌∙◌, ◌-◌, ◌+◌, ◌++◌, ◌∷◌, [], ◌<◌, ◌≤◌, Some, None, List, Bool, Option, length, true, false, sym, ap, arith, cond, refl}
use Rattle.std.specs.Prelude.{remove, insert, slice_set}
use Rattle.dl_kinds.specs.declared.status.Status.{Status}
use Rattle.dl_kinds.specs.declared.status.Status.TheVariants.{Active, Waiting, Paused}
use Rattle.number_list.specs.Order.{NumberOrder, lists_number}
use Rattle.dl_queue.specs.declared.kinds.Queued.{Queued}
use Rattle.dl_queue.specs.declared.kinds.Stopped.{Stopped}
use Rattle.dl_queue.specs.Lists.{QueueLists}
use Rattle.dl_queue.specs.Endings.{ended_status}
use Rattle.dl_queue.specs.Places.{active_place, queued_place, stopped_place, status_of}
use Rattle.dl_queue.specs.Calls.{with_pause}
use Rattle.dl_queue.specs.Held.{lists_of, standing_at, stands_active, stands_queued, stands_ready, stands_stopped}
use Rattle.dl_queue.proofs.Inside.{parts_of, placed, seen, seen_so}
use Rattle.dl_queue.proofs.Standing.{status_is}
use Rattle.dl_queue.proofs.Steps.{Place, within, stood, Became, came_active}
use Rattle.dl_queue.proofs.queue.Queue.enter_active.Goals as goal
use Rattle.dl_queue.proofs.queue.Queue.enter_active.Goals.{After-number_of-number, After-numbers_differ}

at : (c : After-number_of-number) → Place c.self.inside.limit (parts_of c.self.inside) c.args.gid c.number_of-number.result
at c =
    placed c.self.inside c.args.self.now c.args.gid c.number_of-number.result c.self.view_is c.self.invariant.parts_are
    c.number_of-number.ensures

in_all : (c : After-number_of-number) → c.number_of-number.result - 1 < length c.self.inside.standings.items
in_all c =
    let most = within c.self.inside.limit (parts_of c.self.inside) c.args.gid c.number_of-number.result (at c) in
    omega (arith, most, (at c).its.counts)

fresh : (c : After-number_of-number) → lists_number c.self.inside.active.order c.number_of-number.result ≡ false
fresh c =
    c.self.invariant.parts_are.active_are c.number_of-number.result (at c).its.counts
    ∙ ap stands_active (sym (status_is c.self.inside.limit (parts_of c.self.inside) c.self.invariant.parts_are c.args.gid
    c.number_of-number.result (at c).its) ∙ seen c.self.inside c.args.self.now c.args.gid None c.self.view_is c.requires.stands)

bounded : (c : After-number_of-number) → c.number_of-number.result < c.self.inside.active.bound
bounded c =
    let its = (at c).its in
    let some : 0 < length c.self.inside.added.items = omega (arith, its.counts, its.within) in
    let least = c.self.invariant.active_takes some in
    omega (arith, least, its.within)

became : (c : After-numbers_differ) → Place c.self.inside.limit (parts_of c.self.inside) c.args.gid c.number_of-number.result
    → Became c.self.inside.limit
    record (parts_of c.self.inside) {
      active = c.push_back.new.self.order;
      standings = slice_set c.self.inside.standings.items (c.number_of-number.result - 1) (Some Active);
    }
    record (lists_of c.self.inside.limit (parts_of c.self.inside)) {
      active = (lists_of c.self.inside.limit (parts_of c.self.inside)).active ++ c.args.gid ∷ [];
    } c.args.gid (Some Active)
became c place =
    came_active c.self.inside.limit (parts_of c.self.inside) c.args.gid c.number_of-number.result c.push_back.new.self.order
    place
    (seen c.self.inside c.args.self.now c.args.gid None c.self.view_is c.requires.stands)
    (ap (λ (l : NumberOrder). l.order) c.push_back.ensures.value) c.numbers_differ.ensures c.push_back.ensures.listed

pub push_back-requires-clause-within : goal.push_back-requires-clause-within
push_back-requires-clause-within c = bounded (goal.at.push_back-requires-clause-within c).After-number_of-number

pub push_back-requires-clause-counts : goal.push_back-requires-clause-counts
push_back-requires-clause-counts c = (at (goal.at.push_back-requires-clause-counts c).After-number_of-number).its.counts

pub push_back-requires-clause-fresh : goal.push_back-requires-clause-fresh
push_back-requires-clause-fresh c = fresh (goal.at.push_back-requires-clause-fresh c).After-number_of-number

pub index_mut-requires : goal.index_mut-requires
index_mut-requires c = let least = in_all (goal.at.index_mut-requires c).After-number_of-number in omega (arith, least)

pub invariant_of-self : goal.invariant_of-self
invariant_of-self c =
    let held = c.self.invariant in
    let bound = ap (λ (l : NumberOrder). l.bound) c.push_back.ensures.value in
    record {
      parts_are = (became (goal.at.invariant_of-self c).After-numbers_differ (at (goal.at.invariant_of-self c).After-number_of-number)).parts_are;
      numbers_are = held.numbers_are;
      active_takes = λ some. let it = held.active_takes some in omega (arith, it, bound);
      waiting_takes = held.waiting_takes;
      ready_takes = held.ready_takes;
      stopped_takes = held.stopped_takes;
    }

pub returns : goal.returns
returns c =
    (became (goal.at.returns c).After-numbers_differ (at (goal.at.returns c).After-number_of-number)).lists_are
    ∙ ap (λ (v : QueueLists). record v { active = v.active ++ c.args.gid ∷ [] }) c.self.view_is

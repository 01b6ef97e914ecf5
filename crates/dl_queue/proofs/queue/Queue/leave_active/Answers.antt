use Rattle.std.proofs.Common.{◌≡◌, ◌∙◌, ◌-◌, ◌+◌, ◌++◌, ◌∷◌, [], ◌<◌, ◌≤◌, Some, None, List, Bool, Option, length, true, false, sym, ap, arith, cond, refl}
use Rattle.std.specs.Prelude.{remove, insert, slice_set}
use Rattle.dl_kinds.specs.declared.status.Status.{Status}
use Rattle.dl_kinds.specs.declared.status.Status.TheVariants.{Active, Waiting, Paused}
use Rattle.number_list.specs.Order.{NumberOrder, lists_number}
use Rattle.dl_queue.specs.declared.kinds.Queued.{Queued}
use Rattle.dl_queue.specs.declared.kinds.Stopped.{Stopped}
use Rattle.dl_queue.specs.Lists.{QueueLists}
use Rattle.dl_queue.specs.Endings.{ended_status}
use Rattle.dl_queue.specs.Places.{active_place, queued_place, stopped_place, status_of}
use Rattle.dl_queue.specs.Calls.{with_pause}
use Rattle.dl_queue.specs.Held.{lists_of, standing_at, stands_active, stands_queued, stands_ready, stands_stopped}
use Rattle.dl_queue.proofs.Inside.{parts_of, placed, seen, seen_so}
use Rattle.dl_queue.proofs.Standing.{status_is}
use Rattle.dl_queue.proofs.Steps.{Place, within, stood, Became, left_active}
use Rattle.dl_queue.proofs.queue.Queue.leave_active.Goals as goal
use Rattle.dl_queue.proofs.queue.Queue.leave_active.Goals.{After-number_of-number, After-numbers_differ}

at : (c : After-number_of-number) → Place c.self.inside.limit (parts_of c.self.inside) c.args.gid c.number_of-number.result
at c =
    placed c.self.inside c.args.self.now c.args.gid c.number_of-number.result c.self.view_is c.self.invariant.parts_are
    c.number_of-number.ensures

in_all : (c : After-number_of-number) → c.number_of-number.result - 1 < length c.self.inside.standings.items
in_all c =
    let most = within c.self.inside.limit (parts_of c.self.inside) c.args.gid c.number_of-number.result (at c) in
    omega (arith, most, (at c).its.counts)

there : (c : After-number_of-number) → lists_number c.self.inside.active.order c.number_of-number.result ≡ true
there c =
    c.self.invariant.parts_are.active_are c.number_of-number.result (at c).its.counts
    ∙ ap stands_active (sym (status_is c.self.inside.limit (parts_of c.self.inside) c.self.invariant.parts_are c.args.gid
    c.number_of-number.result (at c).its)) ∙ ap stands_active (seen c.self.inside c.args.self.now c.args.gid (Some Active) c.self.view_is c.requires.stands)

became : (c : After-numbers_differ) → Place c.self.inside.limit (parts_of c.self.inside) c.args.gid c.number_of-number.result
    → Became c.self.inside.limit
    record (parts_of c.self.inside) {
      active = c.remove.new.self.order;
      standings = slice_set c.self.inside.standings.items (c.number_of-number.result - 1) None;
    }
    record (lists_of c.self.inside.limit (parts_of c.self.inside)) {
      active = remove (lists_of c.self.inside.limit (parts_of c.self.inside)).active
          (active_place c.args.gid (lists_of c.self.inside.limit (parts_of c.self.inside)).active);
    } c.args.gid None
became c place =
    left_active c.self.inside.limit (parts_of c.self.inside) c.args.gid c.number_of-number.result c.remove.new.self.order
    place
    (seen c.self.inside c.args.self.now c.args.gid (Some Active) c.self.view_is c.requires.stands)
    (ap (λ (l : NumberOrder). l.order) c.remove.ensures.value) c.numbers_differ.ensures c.remove.ensures.listed

pub remove-requires : goal.remove-requires
remove-requires c = there (goal.at.remove-requires c).After-number_of-number

pub index_mut-requires : goal.index_mut-requires
index_mut-requires c = let least = in_all (goal.at.index_mut-requires c).After-number_of-number in omega (arith, least)

pub invariant_of-self : goal.invariant_of-self
invariant_of-self c =
    let held = c.self.invariant in
    let bound = ap (λ (l : NumberOrder). l.bound) c.remove.ensures.value in
    record {
      parts_are = (became (goal.at.invariant_of-self c).After-numbers_differ (at (goal.at.invariant_of-self c).After-number_of-number)).parts_are;
      numbers_are = held.numbers_are;
      active_takes = λ some. let it = held.active_takes some in omega (arith, it, bound);
      waiting_takes = held.waiting_takes;
      ready_takes = held.ready_takes;
      stopped_takes = held.stopped_takes;
    }

pub returns-clause-lists : goal.returns-clause-lists
returns-clause-lists c =
    (became (goal.at.returns-clause-lists c).After-numbers_differ (at (goal.at.returns-clause-lists c).After-number_of-number)).lists_are
    ∙ ap (λ (v : QueueLists). record v { active = remove v.active (active_place c.args.gid v.active) }) c.self.view_is

pub returns-clause-gone : goal.returns-clause-gone
returns-clause-gone c = (became (goal.at.returns-clause-gone c).After-numbers_differ (at (goal.at.returns-clause-gone c).After-number_of-number)).status

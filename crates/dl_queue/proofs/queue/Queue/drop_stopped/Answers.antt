use Rattle.std.proofs.Common.{◌≡◌, ℕ, ◌∙◌, ◌-◌, ◌+◌, ◌<◌, ◌≤◌, ◌*◌, ◌++◌, ◌∷◌, [], Some, None, List, Bool, Option, length, map, true, false, sym, ap, subst, arith, cond, refl, get_or, option_copied}
use Rattle.std.specs.Prelude.{remove, slice_get}
use Rattle.dl_kinds.specs.declared.gid.Gid.{Gid}
use Rattle.dl_kinds.specs.declared.status.Status.{Status}
use Rattle.dl_kinds.specs.declared.status.Status.TheVariants.{Waiting, Paused}
use Rattle.number_list.specs.Order.{NumberOrder, lists_number, number_place}
use Rattle.dl_queue.specs.declared.kinds.Added.{Added}
use Rattle.dl_queue.specs.declared.kinds.TheConstants.{MAX_DOWNLOADS}
use Rattle.dl_queue.specs.Lists.{QueueLists}
use Rattle.dl_queue.specs.Places.{queued_place, status_of}
use Rattle.dl_queue.specs.Calls.{options_in, as_paused}
use Rattle.dl_queue.specs.Held.{number_in, gid_numbered, AreParts, lists_of, standing_at, stands_queued, queued_download}
use Rattle.dl_queue.specs.Named.{AreNamed, AreNamedIn}
use Rattle.dl_queue.specs.NextUp.{IsNextUp, MovesUp}
use Rattle.dl_queue.proofs.Inside.{parts_of, placed, seen_so}
use Rattle.dl_queue.proofs.Standing.{number_is, status_is, queued_place_is, place_tells, active_numbers, waiting_numbers, stopped_numbers, of_added}
use Rattle.dl_queue.proofs.Marks.{Marked, all_gone, all_paused, all_waiting}
use Rattle.dl_queue.proofs.queue.Queue.drop_stopped.Goals as goal
use Rattle.dl_queue.proofs.queue.Queue.drop_stopped.Goals.{After-mark_all}

marked : (c : After-mark_all) → Marked c.self.inside.limit
    record (parts_of c.self.inside) { stopped = []; standings = c.mark_all.new.standings.items }
    record (lists_of c.self.inside.limit (parts_of c.self.inside)) { stopped = [] }
marked c =
    all_gone c.self.inside.limit (parts_of c.self.inside) c.mark_all.new.standings.items c.self.invariant.parts_are c.mark_all.ensures.len
    (λ m counts. c.mark_all.ensures.marked m counts
    ∙ ap (λ l. cond (lists_number l m) None (standing_at c.self.inside.standings.items m)) c.iter.ensures)

pub invariant_of-self : goal.invariant_of-self
invariant_of-self c =
    let held = c.self.invariant in
    let made = marked (goal.at.invariant_of-self c).After-mark_all in
    record {
      parts_are = subst (λ (l : List ℕ). AreParts record (parts_of c.self.inside) { stopped = l; standings = c.mark_all.new.standings.items })
          (sym (ap (λ (l : NumberOrder). l.order) c.clear.ensures))
          made.parts_are;
      numbers_are = held.numbers_are;
      active_takes = held.active_takes;
      waiting_takes = held.waiting_takes;
      ready_takes = held.ready_takes;
      stopped_takes = λ some. let it = held.stopped_takes some in omega (arith, it, ap (λ (l : NumberOrder). l.bound) c.clear.ensures);
    }

pub returns : goal.returns
returns c =
    ap (λ (l : NumberOrder). lists_of c.self.inside.limit record (parts_of c.self.inside) {
      stopped = l.order;
      standings = c.mark_all.new.standings.items;
    }) c.clear.ensures
    ∙ (marked (goal.at.returns c).After-mark_all).lists_are
    ∙ ap (λ (v : QueueLists). record v { stopped = [] }) c.self.view_is

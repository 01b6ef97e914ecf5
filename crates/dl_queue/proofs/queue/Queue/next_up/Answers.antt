use Rattle.std.proofs.Common.{◌≡◌, ◌∙◌, ◌-◌, ◌+◌, ◌<◌, ◌≤◌, ◌*◌, ◌++◌, ◌∷◌, [], Some, None, List, Bool, Option, length, map, true, false, sym, ap, subst, arith, cond, refl, get_or, option_copied}
use Rattle.std.specs.Prelude.{remove, slice_get}
use Rattle.dl_kinds.specs.declared.gid.Gid.{Gid}
use Rattle.dl_kinds.specs.declared.status.Status.{Status}
use Rattle.number_list.specs.Order.{NumberOrder, lists_number, number_place}
use Rattle.dl_queue.specs.declared.kinds.Added.{Added}
use Rattle.dl_queue.specs.declared.kinds.TheConstants.{MAX_DOWNLOADS}
use Rattle.dl_queue.specs.Lists.{QueueLists}
use Rattle.dl_queue.specs.Places.{queued_place, status_of}
use Rattle.dl_queue.specs.Calls.{options_in}
use Rattle.dl_queue.specs.Held.{number_in, gid_numbered, lists_of, standing_at, stands_queued, queued_download}
use Rattle.dl_queue.specs.Named.{AreNamed, AreNamedIn}
use Rattle.dl_queue.specs.NextUp.{IsNextUp, MovesUp}
use Rattle.dl_queue.proofs.Inside.{parts_of, placed, seen_so}
use Rattle.dl_queue.proofs.Standing.{number_is, status_is, queued_place_is, place_tells, active_numbers, waiting_numbers, stopped_numbers, of_added}
use Rattle.dl_queue.proofs.Wholes.{moves_up, none_moves_up, ready_number}
use Rattle.dl_queue.proofs.queue.Queue.next_up.Goals as goal

pub returns-in_err-number : goal.returns-in_err-number
returns-in_err-number c =
    subst (λ (o : Option Gid). IsNextUp c.args.self.now o) (sym c.from_residual.ensures)
    (subst (λ (v : QueueLists). IsNextUp v None) c.self.view_is
    (none_moves_up c.self.inside.limit (parts_of c.self.inside) c.self.invariant.parts_are (sym c.in_err-number.ensures.value)))

pub gid_of-requires-clause-counts : goal.gid_of-requires-clause-counts
gid_of-requires-clause-counts c =
    (ready_number (parts_of c.self.inside) c.self.invariant.parts_are c.in_ok-number.number (sym c.in_ok-number.ensures.value)).0

pub gid_of-requires-clause-within : goal.gid_of-requires-clause-within
gid_of-requires-clause-within c =
    let it = (ready_number (parts_of c.self.inside) c.self.invariant.parts_are c.in_ok-number.number (sym c.in_ok-number.ensures.value)).1 in
    omega (arith, it, c.deref.ensures.len)

pub returns : goal.returns
returns c =
    subst (λ (g : Gid). MovesUp c.args.self.now g)
    (sym (c.gid_of.ensures ∙ ap (λ (l : List Added). gid_numbered l c.in_ok-number.number) c.deref.ensures.value))
    (subst (λ (v : QueueLists). MovesUp v (gid_numbered c.self.inside.added.items c.in_ok-number.number)) c.self.view_is
    (moves_up c.self.inside.limit (parts_of c.self.inside) c.self.invariant.parts_are c.in_ok-number.number (sym c.in_ok-number.ensures.value)))

use Rattle.std.proofs.Common.{◌≡◌, ◌∙◌, ◌-◌, ◌+◌, ◌<◌, ◌≤◌, ◌*◌, ◌++◌, ◌∷◌, [], Some, None, List, Bool, Option, length, map, true, false, sym, ap, subst, arith, cond, refl, get_or, option_copied}
use Rattle.std.specs.Prelude.{remove, slice_get}
use Rattle.dl_kinds.specs.declared.gid.Gid.{Gid}
use Rattle.dl_kinds.specs.declared.status.Status.{Status}
use Rattle.number_list.specs.Order.{NumberOrder, lists_number, number_place}
use Rattle.dl_queue.specs.declared.kinds.Added.{Added}
use Rattle.dl_queue.specs.declared.kinds.TheConstants.{MAX_DOWNLOADS}
use Rattle.dl_queue.specs.Lists.{QueueLists}
use Rattle.dl_queue.specs.Places.{queued_place, status_of}
use Rattle.dl_queue.specs.Calls.{options_in}
use Rattle.dl_queue.specs.Held.{number_in, gid_numbered, lists_of, standing_at, stands_queued, queued_download}
use Rattle.dl_queue.specs.Named.{AreNamed, AreNamedIn}
use Rattle.dl_queue.specs.NextUp.{IsNextUp, IsLastActive}
use Rattle.dl_queue.proofs.Inside.{parts_of, placed, seen_so}
use Rattle.dl_queue.proofs.Standing.{number_is, status_is, queued_place_is, place_tells, active_numbers, waiting_numbers, stopped_numbers, of_added}
use Rattle.std.proofs.lemmas.List.{length-map}
use borrow.Author.Tests.{ltb-true}
use Rattle.dl_queue.proofs.Steps.{Place}
use Rattle.dl_queue.proofs.Wholes.{few_waiting}
use Rattle.dl_queue.proofs.queue.Queue.place.Goals as goal
use Rattle.dl_queue.proofs.queue.Queue.place.Goals.{After-place}

at : (c : After-place) → Place c.self.inside.limit (parts_of c.self.inside) c.args.gid c.number_of-number.result
at c =
    placed c.self.inside c.args.self.now c.args.gid c.number_of-number.result c.self.view_is c.self.invariant.parts_are
    c.number_of-number.ensures

is : (c : After-place) → c.place.result ≡ queued_place c.args.gid c.args.self.now.waiting
is c =
    c.place.ensures ∙ sym (queued_place_is (parts_of c.self.inside) c.self.invariant.parts_are c.args.gid c.number_of-number.result (at c).its)
    ∙ ap (λ (v : QueueLists). queued_place c.args.gid v.waiting) c.self.view_is

pub returns-clause-value : goal.returns-clause-value
returns-clause-value c = is (goal.at.returns-clause-value c).After-place

pub returns-clause-within : goal.returns-clause-within
returns-clause-within c =
    let here = at (goal.at.returns-clause-within c).After-place in
    let n = c.number_of-number.result in
    let queued = queued_download c.self.inside.added.items c.self.inside.standings.items in
    let listed = c.self.invariant.parts_are.waiting_are n here.its.counts
    ∙ ap stands_queued (sym (status_is c.self.inside.limit (parts_of c.self.inside) c.self.invariant.parts_are c.args.gid n here.its))
    ∙ seen_so stands_queued c.self.inside c.args.self.now c.args.gid c.self.view_is c.requires.stands in
    let tells = ltb-true (number_place c.self.inside.waiting.order n) (length (map queued c.self.inside.waiting.order))
    (place_tells queued c.self.inside.waiting.order n ∙ listed) in
    omega (arith, tells, c.place.ensures, ap (λ (v : QueueLists). length v.waiting) c.self.view_is)

pub returns-clause-few : goal.returns-clause-few
returns-clause-few c =
    omega (
      arith,
      few_waiting (parts_of c.self.inside) c.self.invariant.parts_are,
      length-map c.self.inside.waiting.order (queued_download c.self.inside.added.items c.self.inside.standings.items),
      ap (λ (v : QueueLists). length v.waiting) c.self.view_is,
    )

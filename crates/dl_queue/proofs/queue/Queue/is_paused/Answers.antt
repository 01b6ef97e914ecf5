use Rattle.std.proofs.Common.{◌≡◌, ◌∙◌, ◌-◌, ◌+◌, ◌<◌, ◌≤◌, ◌*◌, ◌++◌, ◌∷◌, [], Some, None, List, Bool, Option, length, map, true, false, sym, ap, subst, arith, cond, refl, get_or, option_copied}
use Rattle.std.specs.Prelude.{remove, slice_get}
use Rattle.dl_kinds.specs.declared.gid.Gid.{Gid}
use Rattle.dl_kinds.specs.declared.status.Status.{Status}
use Rattle.number_list.specs.Order.{NumberOrder, lists_number, number_place}
use Rattle.dl_queue.specs.declared.kinds.Added.{Added}
use Rattle.dl_queue.specs.declared.kinds.TheConstants.{MAX_DOWNLOADS}
use Rattle.dl_queue.specs.Lists.{QueueLists}
use Rattle.dl_queue.specs.Places.{queued_place, status_of}
use Rattle.dl_queue.specs.Calls.{options_in}
use Rattle.dl_queue.specs.Held.{number_in, gid_numbered, lists_of, standing_at, stands_queued, queued_download}
use Rattle.dl_queue.specs.Named.{AreNamed, AreNamedIn}
use Rattle.dl_queue.specs.NextUp.{IsNextUp, IsLastActive}
use Rattle.dl_queue.proofs.Inside.{parts_of, placed, seen_so}
use Rattle.dl_queue.proofs.Standing.{number_is, status_is, queued_place_is, place_tells, active_numbers, waiting_numbers, stopped_numbers, of_added}
use Rattle.dl_queue.specs.declared.kinds.Queued.{Queued}
use Rattle.dl_queue.specs.Places.{queued_at}
use Rattle.dl_queue.specs.Held.{stands_ready}
use Rattle.dl_queue.proofs.Steps.{Place}
use Rattle.dl_queue.proofs.Standing.{got_of_map}
use Rattle.std.proofs.Common.{not}
use borrow.Author.Tests.{ltb-true}
use Rattle.dl_queue.proofs.queue.Queue.is_paused.Goals as goal

pub returns-clause-value : goal.returns-clause-value
returns-clause-value c =
    let n = c.number_of-number.result in
    let at = placed c.self.inside c.args.self.now c.args.gid n c.self.view_is c.self.invariant.parts_are c.number_of-number.ensures in
    let parts = parts_of c.self.inside in
    let queued = queued_download parts.added parts.standings in
    let listed = c.self.invariant.parts_are.waiting_are n at.its.counts
    ∙ ap stands_queued (sym (status_is c.self.inside.limit parts c.self.invariant.parts_are c.args.gid n at.its))
    ∙ seen_so stands_queued c.self.inside c.args.self.now c.args.gid c.self.view_is c.requires.stands in
    let there : queued_at c.args.gid (map queued parts.waiting) (queued_place c.args.gid (map queued parts.waiting)) ≡ queued n =
    ap (λ k. queued_at c.args.gid (map queued parts.waiting) k) (queued_place_is parts c.self.invariant.parts_are c.args.gid n at.its)
    ∙ got_of_map queued parts.waiting n record { gid = c.args.gid; paused = false } listed in
    ap not (c.is_ready.ensures ∙ ap stands_ready (c.standing_of.ensures
    ∙ ap (λ (l : List (Option Status)). standing_at l n) c.deref.ensures.value))
    ∙ ap (λ (d : Queued). d.paused) (sym there)
    ∙ ap (λ (v : QueueLists). (queued_at c.args.gid v.waiting (queued_place c.args.gid v.waiting)).paused) c.self.view_is

pub returns-clause-within : goal.returns-clause-within
returns-clause-within c =
    let n = c.number_of-number.result in
    let at = placed c.self.inside c.args.self.now c.args.gid n c.self.view_is c.self.invariant.parts_are c.number_of-number.ensures in
    let parts = parts_of c.self.inside in
    let queued = queued_download parts.added parts.standings in
    let listed = c.self.invariant.parts_are.waiting_are n at.its.counts
    ∙ ap stands_queued (sym (status_is c.self.inside.limit parts c.self.invariant.parts_are c.args.gid n at.its))
    ∙ seen_so stands_queued c.self.inside c.args.self.now c.args.gid c.self.view_is c.requires.stands in
    let tells = ltb-true (number_place parts.waiting n) (length (map queued parts.waiting)) (place_tells queued parts.waiting n ∙ listed) in
    omega (
      arith,
      tells,
      queued_place_is parts c.self.invariant.parts_are c.args.gid n at.its,
      ap (λ (v : QueueLists). length v.waiting) c.self.view_is,
      ap (λ (v : QueueLists). queued_place c.args.gid v.waiting) c.self.view_is,
    )

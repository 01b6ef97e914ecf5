use Rattle.std.proofs.Common.{◌≡◌, ◌∙◌, ◌+◌, ◌≤◌, List, Option, Some, arith, length, refl, set, slice_get, subst, sym}
use Rattle.std.proofs.lemmas.Option.{slice_get_read}
use Rattle.dl_kinds.specs.declared.status.Status.{Status}
use Rattle.dl_queue.specs.Places.{status_of}
use Rattle.machine_core.specs.NoticeLogs.{change_of, TellsOne}
use Rattle.machine_core.proofs.NotedChanges.{all_seen, all_told, none_noted, NotesTo, one_noted}
use Rattle.machine_core.proofs.noting.note.Goals as goal

pub loop-place-init : goal.loop-place-init
loop-place-init c = (
  none_noted c.args.queue.now c.args.event c.args.seen.now.items c.args.told.now.items,
  (let r = c.requires in omega arith),
)

pub loop-place-preserved : goal.loop-place-preserved
loop-place-preserved c =
    let queue = c.args.queue.now in
    let n = c.loop-place.place in
    let download = c.added_at.result.now in
    let seen = c.loop-place.seen.items in
    let k = c.loop-place.invariant.0 in
    let more = c.loop-place.invariant.1 in
    let len = c.tell_change-nth.ensures.len in
    let room = c.tell_change-nth.ensures.capacity in
    let status_is : c.status_at-status.result ≡ status_of queue download.gid =
    c.status_at-status.ensures download c.added_at.ensures in
    let within : n + 1 ≤ length seen = let m = k.noted.many in omega arith in
    let at : slice_get seen n ≡ Some c.index.result.now =
    slice_get_read seen (length seen) n c.index.result.now refl (omega arith) c.index.ensures in (
      subst
          (λ (s : Option Status).
          NotesTo (n + 1) queue c.args.event c.tell_change-nth.result c.args.seen.now.items (set seen n s)
          c.args.told.now.items c.tell_change-nth.new.told.items)
          (sym status_is)
          (one_noted n queue c.args.event c.loop-place.nth c.tell_change-nth.result c.args.seen.now.items seen
          c.args.told.now.items c.loop-place.told.items c.tell_change-nth.new.told.items download c.index.result.now k
          c.added_at.ensures at
          (subst
          (λ (s : Option Status).
          TellsOne c.args.event (change_of c.index.result.now s download.gid) c.loop-place.nth c.tell_change-nth.result
          c.loop-place.told.items c.tell_change-nth.new.told.items)
          status_is c.tell_change-nth.ensures.told)
          c.tell_change-nth.ensures.next),
      omega arith,
    )

pub returns : goal.returns
returns c = λ many.
    let queue = c.args.queue.now in
    let past : length queue.added ≤ c.loop-place.place = omega arith in (
      all_seen c.loop-place.place queue c.args.event c.loop-place.nth c.args.seen.now.items c.loop-place.seen.items
          c.args.told.now.items c.loop-place.told.items c.loop-place.invariant.0 past many,
      all_told c.loop-place.place queue c.args.event c.loop-place.nth c.args.seen.now.items c.loop-place.seen.items
          c.args.told.now.items c.loop-place.told.items c.loop-place.invariant.0 past many,
    )

use Rattle.std.proofs.Common.{◌≡◌, ◌∙◌, ◌-◌, ◌<◌, ℕ, Bool, true, false, List, length, sym, ap, arith}
use Rattle.std.specs.Prelude.{insert, remove}
use Rattle.dl_kinds.specs.declared.gid.Gid.{Gid}
use Rattle.dl_queue.specs.declared.kinds.Queued.{Queued}
use Rattle.dl_queue.specs.Lists.{QueueLists}
use Rattle.dl_queue.specs.Places.{queued_place, queued_at}
use Rattle.dl_queue.specs.Rising.{moved_up}
use Rattle.dl_queue.specs.Calls.{with_pause, with_place, target_of, clamped, base_of}
use Rattle.dl_queue.proofs.Lifts.{back_in_place, queued_there}
use Rattle.dl_queue.proofs.queue.Queue.let_wait.Goals as goal

pub returns : goal.returns
returns c =
    let queue = c.args.self.now in
    let gid = c.args.gid in
    let queued : Queued = record { gid = gid; paused = false } in
    let within : queued_place gid queue.waiting < length queue.waiting = omega (arith, c.place-place.ensures.value, c.place-place.ensures.within) in
    c.move_up.ensures ∙ ap moved_up (c.enter_waiting.ensures
    ∙ ap (λ (q : QueueLists). record q { waiting = insert q.waiting c.place-place.result queued }) c.leave_waiting.ensures.lists
    ∙ ap (λ k. record queue { waiting = insert (remove queue.waiting (queued_place gid queue.waiting)) k queued }) c.place-place.ensures.value
    ∙ ap (λ (w : List Queued). record queue { waiting = w }) (back_in_place queue.waiting (queued_place gid queue.waiting) queued within))

use Rattle.std.proofs.Common.{◌≡◌, ◌∙◌, ◌-◌, ◌<◌, ℕ, Bool, true, false, List, length, sym, ap, arith, rules}
use Rattle.std.specs.Prelude.{insert, remove}
use Rattle.dl_kinds.specs.declared.gid.Gid.{Gid}
use Rattle.dl_queue.specs.declared.kinds.Queued.{Queued}
use Rattle.dl_queue.specs.Lists.{QueueLists}
use Rattle.dl_queue.specs.Places.{queued_place, queued_at}
use Rattle.dl_queue.specs.Rising.{moved_up}
use Rattle.dl_queue.specs.Calls.{with_pause, with_place, target_of, clamped, base_of}
use Rattle.dl_queue.proofs.Lifts.{back_in_place, queued_there}
use Rattle.dl_queue.proofs.queue.Queue.move_queued.Goals as goal

pub returns-clause-state : goal.returns-clause-state
returns-clause-state c =
    let queue = c.args.self.now in
    let gid = c.args.gid in
    let any : Queued = record { gid = gid; paused = false } in
    let place = queued_place gid queue.waiting in
    let download = queued_at gid queue.waiting place in
    let left = remove queue.waiting place in
    let within = c.is_paused-paused.ensures.within in
    let same = ap (λ (b : Bool). let q : Queued = record { gid = gid; paused = b } in q) c.is_paused-paused.ensures.value
    ∙ ap (λ (g : Gid). let q : Queued = record { gid = g; paused = download.paused } in q) (sym (queued_there queue.waiting gid any within)) in
    let target : c.target_place-target.result ≡ target_of queue.waiting gid c.args.position c.args.how = search rules in
    c.move_up.ensures ∙ ap moved_up (c.enter_waiting.ensures
    ∙ ap (λ (q : QueueLists). record q { waiting = insert q.waiting c.target_place-target.result record { gid = gid; paused = c.is_paused-paused.result } })
    c.leave_waiting.ensures.lists
    ∙ ap (λ k. record queue { waiting = insert left k record { gid = gid; paused = c.is_paused-paused.result } }) target
    ∙ ap (λ (d : Queued). record queue { waiting = insert left (target_of queue.waiting gid c.args.position c.args.how) d }) same)

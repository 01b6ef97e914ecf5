use Rattle.std.proofs.Common.{◌≡◌, ◌∙◌, ◌++◌, ◌∷◌, [], ◌<◌, true, length, sym, ap, arith}
use Rattle.std.specs.Prelude.{insert}
use Rattle.dl_queue.specs.Lists.{QueueLists}
use Rattle.dl_queue.proofs.Lifts.{one_aside, last_is_fewer, all_aside}
use Rattle.dl_queue.proofs.queue.Queue.set_aside.Goals as goal

pub loop-gid-preserved : goal.loop-gid-preserved
loop-gid-preserved c =
    let step = c.enter_waiting.ensures
    ∙ ap (λ (q : QueueLists). record q { waiting = insert q.waiting 0 record { gid = c.in-Some.gid; paused = true } }) c.leave_active.ensures.lists in
    ap all_aside step ∙ one_aside c.loop-gid.self c.in-Some.gid c.in-Some.ensures ∙ c.loop-gid.invariant

pub loop-gid-smaller : goal.loop-gid-smaller
loop-gid-smaller c =
    let less = last_is_fewer c.loop-gid.self c.in-Some.gid c.in-Some.ensures in
    let step = c.enter_waiting.ensures
    ∙ ap (λ (q : QueueLists). record q { waiting = insert q.waiting 0 record { gid = c.in-Some.gid; paused = true } }) c.leave_active.ensures.lists in
    omega (arith, less, ap (λ (q : QueueLists). length q.active) step)

use Rattle.std.proofs.Common.{◌≡◌, ◌∙◌, ◌++◌, ◌∷◌, [], ◌<◌, ◌≤◌, length, sym, ap, arith}
use Rattle.std.specs.Prelude.{remove}
use Rattle.dl_queue.specs.Lists.{QueueLists}
use Rattle.dl_queue.specs.Places.{queued_place}
use Rattle.dl_queue.specs.Rising.{moved_up}
use Rattle.dl_queue.proofs.Lifts.{moved_one, full, none_left, fewer}
use Rattle.dl_queue.proofs.queue.Queue.move_up.Goals as goal
use Rattle.dl_queue.proofs.queue.Queue.move_up.Goals.{After-enter_active}

step : (c : After-enter_active) → c.enter_active.new.self ≡ record c.loop-self.self {
  active = c.loop-self.self.active ++ c.in-Some.gid ∷ [];
  waiting = remove c.loop-self.self.waiting (queued_place c.in-Some.gid c.loop-self.self.waiting);
}
step c =
    c.enter_active.ensures ∙ ap (λ (q : QueueLists). record q { active = q.active ++ c.in-Some.gid ∷ [] }) c.leave_waiting.ensures.lists

pub loop-self-preserved : goal.loop-self-preserved
loop-self-preserved c =
    let free : length c.loop-self.self.active < c.loop-self.self.limit = omega (arith, c.loop-self-test.true, c.active_len.ensures, c.limit.ensures) in
    ap moved_up (step (goal.at.loop-self-preserved c).After-enter_active)
    ∙ moved_one c.loop-self.self c.in-Some.gid c.in-Some.ensures free ∙ c.loop-self.invariant

pub loop-self-smaller : goal.loop-self-smaller
loop-self-smaller c =
    let moves = c.in-Some.ensures in
    let less = fewer c.loop-self.self.waiting (queued_place c.in-Some.gid c.loop-self.self.waiting) (omega (arith, moves.place, moves.within)) in
    omega (arith, less, ap (λ (q : QueueLists). length q.waiting) (step (goal.at.loop-self-smaller c).After-enter_active))

pub returns : goal.returns
returns c =
    full c.loop-self.self (omega (arith, c.loop-self-test.false, c.active_len.ensures, c.limit.ensures)) ∙ c.loop-self.invariant

pub returns-in-None : goal.returns-in-None
returns-in-None c = none_left c.loop-self.self c.in-None.ensures ∙ c.loop-self.invariant

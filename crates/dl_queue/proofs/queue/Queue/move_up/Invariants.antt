use Rattle.std.proofs.Common.{◌≡◌, length}
use Rattle.dl_queue.specs.Rising.{moved_up}
use Rattle.dl_queue.proofs.queue.Queue.move_up.Given as goal

-- what is still to move up makes of the queue what all that was to move up makes of the queue at the beginning
abbrev pub invariant-loop-self : goal.invariant-loop-self
invariant-loop-self l = moved_up l.self ≡ moved_up l.initial.self

abbrev pub decreases-loop-self : goal.decreases-loop-self
decreases-loop-self l = length l.self.waiting

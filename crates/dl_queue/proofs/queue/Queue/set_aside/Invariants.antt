use Rattle.std.proofs.Common.{◌≡◌, length}
use Rattle.dl_queue.proofs.Lifts.{all_aside}
use Rattle.dl_queue.proofs.queue.Queue.set_aside.Given as goal

-- those that are left make with the waiting ones what all made at the beginning
abbrev pub invariant-loop-gid : goal.invariant-loop-gid
invariant-loop-gid l = all_aside l.self ≡ all_aside l.initial.self

abbrev pub decreases-loop-gid : goal.decreases-loop-gid
decreases-loop-gid l = length l.self.active

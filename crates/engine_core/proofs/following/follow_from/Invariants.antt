use Rattle.std.proofs.Common.{◌≡◌, ◌+◌, ◌≤◌, length}
use Rattle.std.specs.Prelude.{take}
use Rattle.engine_core.specs.Buckets.{all_followed, own_rates}
use Rattle.engine_core.proofs.following.follow_from.Given as goal

abbrev pub invariant-loop-place : goal.invariant-loop-place
invariant-loop-place l =
    (l.limits.overall ≡ l.fn.limits.overall)
    × (l.limits.own ≡ all_followed (take l.place (own_rates l.machine.start l.machine.past)) l.now.0 l.fn.limits.own)
    × (length l.limits.own + l.limits.room ≡ length l.fn.limits.own + l.fn.limits.room)
    × (l.place ≤ length l.limits.own)

use Rattle.std.proofs.Common.{◌≡◌, ◌-◌, ◌≤◌}
use Rattle.link_source.specs.Load.{load_part}
use Rattle.link_source.proofs.load.load_part.Given as goal

-- the bytes up to this place
abbrev pub invariant-loop-place : goal.invariant-loop-place
invariant-loop-place l =
    (l.first ≤ l.place) × (l.place ≤ l.end) × (l.bytes.items ≡ load_part l.n l.first (l.place - l.first))

abbrev pub decreases-loop-place : goal.decreases-loop-place
decreases-loop-place l = l.end - l.place

use Rattle.std.proofs.Common.{◌≡◌}
use Rattle.dl_kinds.specs.Lists.{part_at}
use Rattle.load_setup.proofs.counting.group_of.Given as goal

abbrev pub invariant-loop-place : goal.invariant-loop-place
invariant-loop-place l = l.group ≡ part_at l.digests l.first l.place

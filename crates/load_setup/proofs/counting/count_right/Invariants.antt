use Rattle.std.proofs.Common.{◌≡◌, ◌*◌}
use Rattle.load_setup.specs.Payload.{right_from}
use Rattle.load_setup.proofs.counting.count_right.Given as goal

abbrev pub invariant-loop-group : goal.invariant-loop-group
invariant-loop-group o l = l.count ≡ right_from l.digests l.payload 0 (l.group * 16)

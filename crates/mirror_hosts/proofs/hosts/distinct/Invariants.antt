use Rattle.std.proofs.Common.{◌≡◌, [], take}
use Rattle.mirror_hosts.specs.Hosts.{distinct_hosts}
use Rattle.mirror_hosts.proofs.hosts.distinct.Given as goal

abbrev pub invariant-loop-place : goal.invariant-loop-place
invariant-loop-place l = l.known ≡ distinct_hosts [] (take l.place l.hosts)

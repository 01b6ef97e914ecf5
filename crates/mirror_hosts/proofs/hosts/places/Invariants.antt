use Rattle.std.proofs.Common.{◌≡◌, map, take}
use Rattle.mirror_hosts.specs.Hosts.{host_place}
use Rattle.mirror_hosts.proofs.hosts.places.Given as goal

abbrev pub invariant-loop-place : goal.invariant-loop-place
invariant-loop-place l = l.places.items ≡ map (host_place l.known) (take l.place l.hosts)

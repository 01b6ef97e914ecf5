use Rattle.std.proofs.Common.{◌≡◌, ◌++◌, map, take}
use Rattle.mirror_hosts.specs.Hosts.{url_host}
use Rattle.mirror_hosts.proofs.hosts.add_hosts.Given as goal

abbrev pub invariant-loop-place : goal.invariant-loop-place
invariant-loop-place l = l.hosts ≡ l.fn.hosts ++ map url_host (take l.place l.urls)

use Rattle.std.proofs.Common.{◌≡◌, ◌++◌, take}
use Rattle.load_setup.specs.Metainfo.{digests_joined}
use Rattle.load_setup.proofs.torrent.add_digests.Given as goal

abbrev pub invariant-loop-place : goal.invariant-loop-place
invariant-loop-place l = l.text.items ≡ l.fn.text.items ++ digests_joined (take l.place l.digests)

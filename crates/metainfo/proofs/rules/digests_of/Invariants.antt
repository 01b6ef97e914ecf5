use Rattle.std.proofs.Common.{◌≡◌, ◌++◌, ◌/◌, length}
use Rattle.metainfo.specs.Rules.{first_digests}
use Rattle.metainfo.proofs.rules.digests_of.Given as goal

abbrev pub invariant-loop-digest : goal.invariant-loop-digest
invariant-loop-digest l = l.digests ++ first_digests (length l.rest / 20) l.rest ≡ first_digests (length l.bytes / 20) l.bytes

abbrev pub decreases-loop-digest : goal.decreases-loop-digest
decreases-loop-digest l = length l.rest

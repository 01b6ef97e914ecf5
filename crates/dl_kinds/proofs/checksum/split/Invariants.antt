use Rattle.std.proofs.Common.{◌≢◌, ◌++◌, List, ℕ, ◌<◌, get_or}
use Rattle.dl_kinds.specs.Checksum.{prefix_of}
use Rattle.dl_kinds.specs.declared.checksum.HashType.TheVariants.{Sha1}
use Rattle.dl_kinds.proofs.checksum.split.Given as goal

-- no name that was tried stands in front
abbrev pub invariant-loop-hash : goal.invariant-loop-hash
invariant-loop-hash l =
    (k : ℕ) → k < l.hash-index → (digits : List ℕ) → l.text ≢ prefix_of (get_or l.hash-items k Sha1) ++ digits

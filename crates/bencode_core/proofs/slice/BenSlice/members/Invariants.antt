use Rattle.std.proofs.Common.{length, map}
use Rattle.bencode_core.proofs.Listed.{ListedLeft}
use Rattle.bencode_core.proofs.slice.BenSlice.members.Given as goal

abbrev pub invariant-loop-key : goal.invariant-loop-key
invariant-loop-key l = ListedLeft l.self (map (λ m. (m.0.now, m.1)) l.members.items) l.next l.rest

abbrev pub decreases-loop-key : goal.decreases-loop-key
decreases-loop-key l = length l.rest

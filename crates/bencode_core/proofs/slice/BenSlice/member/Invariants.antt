use Rattle.std.proofs.Common.{length}
use Rattle.bencode_core.proofs.Sliced.{MembersLeft}
use Rattle.bencode_core.proofs.slice.BenSlice.member.Given as goal

abbrev pub invariant-loop-found : goal.invariant-loop-found
invariant-loop-found l = MembersLeft l.self l.key l.next l.rest

abbrev pub decreases-loop-found : goal.decreases-loop-found
decreases-loop-found l = length l.rest

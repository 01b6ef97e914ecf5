use Rattle.std.proofs.Common.{length}
use Rattle.bencode_core.proofs.Sliced.{ItemsLeft}
use Rattle.bencode_core.proofs.slice.BenSlice.items.Given as goal

abbrev pub invariant-loop-rest : goal.invariant-loop-rest
invariant-loop-rest l = ItemsLeft l.self l.items.items l.next l.rest

abbrev pub decreases-loop-rest : goal.decreases-loop-rest
decreases-loop-rest l = length l.rest

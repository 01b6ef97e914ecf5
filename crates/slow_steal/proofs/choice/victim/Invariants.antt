use Rattle.std.proofs.Common.{take}
use Rattle.slow_steal.proofs.Slowest.{IsFound}
use Rattle.slow_steal.proofs.choice.victim.Given as goal

abbrev pub invariant-loop-claim : goal.invariant-loop-claim
invariant-loop-claim l = IsFound l.now.0 (take l.claim-index l.claims) l.found

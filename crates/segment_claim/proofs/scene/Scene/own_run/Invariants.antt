use Rattle.segment_claim.proofs.OwnRuns.{IsLongestUpTo}
use Rattle.segment_claim.proofs.scene.Scene.own_run.Given as goal

abbrev pub invariant-loop-block : goal.invariant-loop-block
invariant-loop-block l = IsLongestUpTo l.self l.claim l.block l.run l.longest

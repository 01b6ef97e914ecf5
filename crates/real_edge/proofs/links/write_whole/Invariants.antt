use Rattle.std.proofs.Common.{length}
use Rattle.real_edge.proofs.links.write_whole.Given as goal

abbrev pub decreases-loop-rest : goal.decreases-loop-rest
decreases-loop-rest _ l = length l.rest

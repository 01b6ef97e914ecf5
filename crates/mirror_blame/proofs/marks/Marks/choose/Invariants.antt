use Rattle.mirror_blame.proofs.Best.{IsBest}
use Rattle.mirror_blame.specs.Marks.{total_marks}
use Rattle.mirror_blame.specs.Choice.{IsCandidate}
use Rattle.std.specs.Prelude.{slice_index}
use Rattle.mirror_blame.proofs.marks.Marks.choose.Given as goal

abbrev pub invariant-loop-mirror : goal.invariant-loop-mirror
invariant-loop-mirror l = IsBest (IsCandidate l.self.mirrors l.self.max_tries l.self.marks l.first l.last l.standing l.limit) (total_marks l.self.max_tries l.self.marks) (slice_index l.standing) l.mirror l.best

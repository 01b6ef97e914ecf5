use Rattle.segment_claim.proofs.LooseRuns.{run_ends}
use Rattle.segment_claim.proofs.scene.Scene.next_stretch.Goals as goal

pub returns-clause-stretch : goal.returns-clause-stretch
returns-clause-stretch c = record {
  later = c.next_loose-first.ensures.later;
  none = c.next_loose-first.ensures.none;
  ends = run_ends c.args.self.now c.next_loose-first.result c.loose_end.result c.loose_end.ensures.some
      c.loose_end.ensures.within
      c.loose_end.ensures.loose c.loose_end.ensures.alike c.loose_end.ensures.behind;
}

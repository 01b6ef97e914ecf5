use Rattle.std.proofs.Common.{◌≡◌, ◌-◌, ◌≤◌, count_by}
use Rattle.dl_kinds.specs.Lists.{part_at}
use Rattle.segment_claim.proofs.scene.Scene.count_landed.Given as goal

abbrev pub invariant-loop-block : goal.invariant-loop-block
invariant-loop-block l = record {
  counted : l.count ≡ count_by (λ is. is) (part_at l.self.landed l.fn.claim.run.first (l.block - l.fn.claim.run.first));
  bound : l.count ≤ l.block - l.fn.claim.run.first;
}

use Rattle.std.proofs.Common.{◌≡◌, length, take}
use Rattle.std.specs.Prelude.{count_by, map}
use Rattle.segment_claim.specs.Situation.{is_on}
use Rattle.segment_claim.proofs.scene.host_loads.Given as goal

abbrev pub invariant-loop-mirror : goal.invariant-loop-mirror
invariant-loop-mirror l = record {
  room : length l.loads ≡ 256;
  loads : take l.mirror l.loads ≡ map (λ host. count_by (is_on l.hosts host) l.standing) (take l.mirror l.hosts);
}

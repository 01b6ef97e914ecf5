use Rattle.std.proofs.Common.{◌≡◌, false, take}
use Rattle.std.specs.List.{list_any}
use Rattle.segment_claim.specs.Free.{is_open_at}
use Rattle.segment_claim.proofs.scene.Scene.is_claimed.Given as goal

abbrev pub invariant-loop-claim : goal.invariant-loop-claim
invariant-loop-claim l = list_any (is_open_at l.self l.block) (take l.claim-index l.self.standing) ≡ false

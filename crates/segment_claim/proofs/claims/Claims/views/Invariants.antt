use Rattle.std.proofs.Common.{◌≡◌, ◌+◌, ◌<◌, ◌^◌, length, take}
use Rattle.std.specs.Prelude.{All}
use Rattle.std.specs.List.{AllZip}
use Rattle.segment_claim.specs.Views.{IsViewOf}
use Rattle.segment_claim.proofs.claims.Claims.views.Given as goal

abbrev pub invariant-loop-claim : goal.invariant-loop-claim
invariant-loop-claim l = record {
  views : AllZip (IsViewOf l.scene) (take l.claim-index l.self.standing) l.into;
  bounded : All (λ view. view.own.first + view.own.count < 2 ^ 32) l.into;
  many : length l.into ≡ l.claim-index;
}

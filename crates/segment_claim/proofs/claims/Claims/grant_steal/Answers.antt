use Rattle.std.proofs.Common.{◌≤◌, ◌+◌, sym, subst, arith}
use Rattle.std.specs.Prelude.{Contains}
use Rattle.dl_kinds.specs.Plan.{blocks_of}
use Rattle.segment_claim.specs.Book.{ClaimBook}
use Rattle.segment_claim.proofs.Standing.{stands_within}
use Rattle.segment_claim.proofs.claims.Claims.grant_steal.Goals as goal

pub grant-requires-clause-blocks : goal.grant-requires-clause-blocks
grant-requires-clause-blocks c =
    let inside = c.self.inside in
    let steal = c.requires.steal in
    let claim = steal.claim in
    let stands : Contains inside.standing.items claim =
    subst (λ (b : ClaimBook). Contains b.standing claim) (sym c.self.view_is) steal.stands in
    let within : claim.run.first + claim.run.count ≤ blocks_of inside.plan.total inside.plan.piece_len =
    stands_within _ _ inside.next inside.standing.items inside.closed.items claim c.self.invariant stands in
    let to = steal.to in
    rw (← c.self.view_is) (record { some = steal.some; within = omega arith })

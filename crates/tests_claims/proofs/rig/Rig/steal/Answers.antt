use Rattle.std.proofs.Common.{◌≡◌, ◌+◌, ◌≤◌, List, refl, subst, arith}
use Rattle.std.proofs.lemmas.List.Elements.{All-contains}
use Rattle.dl_kinds.specs.Plan.{blocks_of}
use Rattle.dl_kinds.specs.declared.claims.ClaimView.{ClaimView}
use Rattle.slow_steal.specs.Theft.{IsSteal}
use Rattle.segment_claim.specs.Sound.{IsWithinBlocks}
use Rattle.segment_claim.specs.Theft.{IsStealOf}
use Rattle.tests_claims.proofs.rig.Rig.steal.Goals as goal

pub mirror_for-mirror-requires-clause-within : goal.mirror_for-mirror-requires-clause-within
mirror_for-mirror-requires-clause-within c =
    let book = c.reserve.new.self in
    let steal = c.in-Some.steal in
    let is : IsSteal c.args.now c.views.new.into steal = subst (λ (l : List ClaimView). IsSteal c.args.now l steal) c.as_slice.ensures c.in-Some.ensures.steal in
    let of : IsStealOf book steal = c.steals_are_of_claims.ensures.claims book _ c.views.new.into c.args.now steal refl c.views.ensures.views is in
    let within = (All-contains (IsWithinBlocks (blocks_of book.total book.piece_len)) book.standing of.claim c.standing.ensures.sound.within of.stands).within in
    let to = of.to in
    omega arith

pub grant_steal-requires-clause-steal : goal.grant_steal-requires-clause-steal
grant_steal-requires-clause-steal c =
    let book = c.reserve.new.self in
    let steal = c.in-Some.steal in
    let is : IsSteal c.args.now c.views.new.into steal = subst (λ (l : List ClaimView). IsSteal c.args.now l steal) c.as_slice.ensures c.in-Some.ensures.steal in
    c.steals_are_of_claims.ensures.claims book _ c.views.new.into c.args.now steal refl c.views.ensures.views is

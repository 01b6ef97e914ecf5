use Rattle.std.proofs.Common.{List, All, refl, ap, subst}
use Rattle.std.specs.Option.{is_some}
use Rattle.dl_kinds.specs.declared.claims.ClaimView.{ClaimView}
use Rattle.segment_claim.specs.Situation.{Situation, situation_of}
use Rattle.segment_claim.specs.Theft.{IsStealOf}
use Rattle.slow_steal.specs.Theft.{IsSteal, MayLose}
use Rattle.one_download.proofs.Thefts.{no_theft, steal_within}
use Rattle.one_download.proofs.choosing.theft.Goals as goal

pub returns-in_default-clause-none : goal.returns-in_default-clause-none
returns-in_default-clause-none c =
    let s : Situation = situation_of c.args.claims.now c.args.table.now c.args.marks.now c.args.limits.now in
    no_theft s c.args.now.0 c.views.new.into c.views.ensures.views
    (subst (All (λ (v : ClaimView). ¬ MayLose v)) c.as_slice.ensures
    (c.victim.ensures.none.0 (ap is_some c.in_default.is)))

pub mirror_for-requires-clause-within : goal.mirror_for-requires-clause-within
mirror_for-requires-clause-within c =
    let s : Situation = situation_of c.args.claims.now c.args.table.now c.args.marks.now c.args.limits.now in
    let steal : IsSteal c.args.now.0 c.views.new.into c.in-Some.steal =
    subst (λ (vs : List ClaimView). IsSteal c.args.now.0 vs c.in-Some.steal) c.as_slice.ensures c.in-Some.ensures.steal in
    steal_within c.args.claims.now c.in-Some.steal _
    (c.steals_are_of_claims.ensures.claims c.args.claims.now s c.views.new.into c.args.now.0 c.in-Some.steal refl
    c.views.ensures.views steal)
    c.standing.ensures.sound.within

pub returns-in-Some-mirror_for-clause-within : goal.returns-in-Some-mirror_for-clause-within
returns-in-Some-mirror_for-clause-within c =
    let s : Situation = situation_of c.args.claims.now c.args.table.now c.args.marks.now c.args.limits.now in
    let steal : IsSteal c.args.now.0 c.views.new.into c.in-Some.steal =
    subst (λ (vs : List ClaimView). IsSteal c.args.now.0 vs c.in-Some.steal) c.as_slice.ensures c.in-Some.ensures.steal in
    let of : IsStealOf c.args.claims.now c.in-Some.steal =
    c.steals_are_of_claims.ensures.claims c.args.claims.now s c.views.new.into c.args.now.0 c.in-Some.steal refl
    c.views.ensures.views steal in
    record { some = of.some; within = steal_within c.args.claims.now c.in-Some.steal _ of c.standing.ensures.sound.within }

pub returns-in-None-clause-none : goal.returns-in-None-clause-none
returns-in-None-clause-none c =
    let s : Situation = situation_of c.args.claims.now c.args.table.now c.args.marks.now c.args.limits.now in
    let steal : IsSteal c.args.now.0 c.views.new.into c.in-Some.steal =
    subst (λ (vs : List ClaimView). IsSteal c.args.now.0 vs c.in-Some.steal) c.as_slice.ensures c.in-Some.ensures.steal in
    let one = c.steals_are_of_claims.ensures.mirrors s c.views.new.into c.args.now.0 c.in-Some.steal c.views.ensures.views steal in
    let none = c.in-None.ensures.none in
    λ choice is. none one.0 one.1

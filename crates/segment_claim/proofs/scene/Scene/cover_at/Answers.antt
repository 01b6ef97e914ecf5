use Rattle.std.proofs.Common.{◌≡◌, ◌<◌, ◌≤◌, List, length, take, get_or, None, sym, subst, arith}
use Rattle.std.proofs.lemmas.List.{take_all, take_more}
use Rattle.dl_kinds.specs.Plan.{blocks_of}
use Rattle.dl_kinds.specs.declared.claims.Claim.{Claim}
use Rattle.segment_claim.specs.Situation.{Situation}
use Rattle.segment_claim.proofs.Covers.{IsUpTo, newest_of, up_to_here, up_to_later, up_to_past}
use Rattle.segment_claim.proofs.scene.Scene.cover_at.Goals as goal
use Rattle.segment_claim.proofs.scene.Scene.cover_at.Goals.{then-at-claim, else-at-claim+then-at-end, else-at-claim+else-at-end}

abbrev blank : Claim
blank = record {
  id = 0;
  worker = 0;
  mirror = 0;
  run = record { first = 0; count = 0 };
  victim = None;
  since =
      record { 0 = 0 };
}

pub loop-claim-preserved : goal.loop-claim-preserved
loop-claim-preserved c =
    let standing = c.self.inside.standing.now in
    let i = c.loop-claim.claim-index in
    let at = c.args.at in
    let until = c.loop-claim.until in
    let newest = c.loop-claim.newest in
    let here : i < length standing = c.loop-claim-test.true in
    let claim : Claim = get_or standing i blank in
    let is : IsUpTo (take i standing) at until newest =
    subst (λ (s : Situation). IsUpTo (take i s.standing) at until newest)
    (sym c.self.view_is) c.loop-claim.invariant.is in
    let bound : until ≤ blocks_of c.self.inside.plan.total c.self.inside.plan.piece_len =
    subst (λ (s : Situation). until ≤ blocks_of s.total s.piece_len)
    (sym c.self.view_is) c.loop-claim.invariant.within in
    let some = c.loop-claim.invariant.some in
    rw (← c.self.view_is, take_more standing i blank here) (elim c.if-at-claim.branch [
      | then-at-claim w ↦ rw (w.until-is, w.newest-is, w.min-until.ensures) (record {
        some = let h = w.if-at-claim.true in omega arith;
        within = omega arith;
        is = up_to_later (take i standing) at until newest claim is;
      })
      | else-at-claim+then-at-end w ↦
          rw (w.until-is, w.newest-is, w.min-until-then-at-end.ensures, w.or-newest.ensures) (record {
            some = let h = w.if-at-end.true in omega arith;
            within = omega arith;
            is = up_to_here (take i standing) at until newest claim is w.if-at-claim.false;
          })
      | else-at-claim+else-at-end w ↦ rw (w.until-is, w.newest-is) (record {
        some = some;
        within = bound;
        is = up_to_past (take i standing) at until newest claim is w.if-at-end.false;
      })
    ])

pub returns : goal.returns
returns c = record {
  is = λ block from before.
      let standing = c.self.inside.standing.now in
      let all : take c.loop-claim.claim-index standing ≡ standing =
      take_all c.loop-claim.claim-index standing c.loop-claim-test.false in
      let is : IsUpTo (take c.loop-claim.claim-index standing) c.args.at c.loop-claim.until c.loop-claim.newest =
      subst (λ (s : Situation). IsUpTo
      (take c.loop-claim.claim-index s.standing) c.args.at c.loop-claim.until c.loop-claim.newest)
      (sym c.self.view_is) c.loop-claim.invariant.is in
      rw (← c.self.view_is) (subst (λ (l : List Claim). newest_of l block ≡ c.loop-claim.newest) all
      (is block from before));
  from = omega arith;
  until = c.loop-claim.invariant.some;
}

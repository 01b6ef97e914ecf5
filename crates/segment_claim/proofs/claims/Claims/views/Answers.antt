use Rattle.std.proofs.Common.{◌≡◌, ◌<◌, ◌+◌, ◌^◌, ◌++◌, ◌∷◌, [], List, None, length, take, get_or, sym, ap, ◌∙◌, subst, arith, length-append}
use Rattle.std.specs.List.{AllZip}
use Rattle.std.proofs.lemmas.List.{take_more}
use Rattle.std.proofs.lemmas.List.Elements.{All-push}
use Rattle.segment_claim.proofs.Zips.{AllZip-more}
use Rattle.dl_kinds.specs.declared.claims.Claim.{Claim}
use Rattle.dl_kinds.specs.declared.claims.ClaimView.{ClaimView}
use Rattle.segment_claim.specs.Book.{ClaimBook}
use Rattle.segment_claim.specs.Situation.{Situation}
use Rattle.segment_claim.specs.Views.{IsViewOf}
use Rattle.segment_claim.proofs.claims.Claims.views.Goals as goal

abbrev blank : Claim
blank = record {
  id = 0;
  worker = 0;
  mirror = 0;
  run = record { first = 0; count = 0 };
  victim = None;
  since =
      record { 0 = 0 };
}

pub loop-claim-preserved : goal.loop-claim-preserved
loop-claim-preserved c =
    let s : Situation = c.scene-scene.result in
    let i = c.loop-claim.claim-index in
    let items : List Claim = c.deref-claim-items.result.now in
    let same : items ≡ c.args.self.now.standing =
    c.deref-claim-items.ensures.value ∙ ap (λ (b : ClaimBook). b.standing) c.self.view_is in
    let here : i < length items = c.loop-claim-test.true in
    let before : AllZip (IsViewOf s) (take i items) c.loop-claim.into =
    subst (λ (l : List Claim). AllZip (IsViewOf s) (take i l) c.loop-claim.into)
    (sym same) c.loop-claim.invariant.views in
    let more : AllZip (IsViewOf s) (take (i + 1) items) (c.loop-claim.into ++ c.view_of.result ∷ []) =
    rw (take_more items i blank here)
    (AllZip-more (IsViewOf s) (take i items) c.loop-claim.into
    (get_or items i blank) c.view_of.result before c.view_of.ensures.view) in
    record {
      views = rw c.push.ensures (subst
          (λ (l : List Claim). AllZip (IsViewOf s) (take (i + 1) l) (c.loop-claim.into ++ c.view_of.result ∷ [])) same
          more);
      bounded = rw c.push.ensures (All-push
          (λ (view : ClaimView). view.own.first + view.own.count < 2 ^ 32) c.loop-claim.into c.view_of.result
          c.loop-claim.invariant.bounded c.view_of.ensures.bounded);
      many = rw c.push.ensures (omega
          (arith, length-append c.loop-claim.into (c.view_of.result ∷ []), c.loop-claim.invariant.many));
    }

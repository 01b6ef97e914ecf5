-- What is stolen of the views of standing claims.
use Rattle.std.proofs.Common.{◌≡◌, ℕ, zero, suc, ◌+◌, ◌-◌, ◌/◌, ◌<◌, List, [], ◌∷◌, length, get_or, refl, sym, ap, ◌∙◌, subst, arith}
use Rattle.std.specs.Prelude.{Contains}
use Rattle.std.specs.List.{AllZip}
use Rattle.dl_kinds.specs.declared.claims.Claim.{Claim}
use Rattle.dl_kinds.specs.declared.claims.ClaimView.{ClaimView}
use Rattle.dl_kinds.specs.declared.runs.Run.{Run}
use Rattle.slow_steal.specs.Theft.{IsSteal, later_half}
use Rattle.slow_steal.specs.declared.theft.Steal.{Steal}
use Rattle.segment_claim.specs.Book.{ClaimBook}
use Rattle.segment_claim.specs.Free.{IsMirrorFor}
use Rattle.segment_claim.specs.Situation.{Situation}
use Rattle.segment_claim.specs.Theft.{AreViews, IsStealOf}
use Rattle.segment_claim.specs.Views.{IsViewOf}
use Rattle.segment_claim.proofs.OwnRuns.{own_from, own_to}

-- the claim that a view is of
pub record IsSeen (s : Situation) (standing : List Claim) (view : ClaimView) : Type 0 where
  pub claim : Claim
  pub stands : Contains standing claim
  pub view_of : IsViewOf s claim view

later : (s : Situation) (first : Claim) (rest : List Claim) (view : ClaimView) → IsSeen s rest view
    → IsSeen s (first ∷ rest) view
later s first rest view seen = record {
  claim = seen.claim;
  stands = let h = seen.stands in (suc h.0, (let w = h.1 in omega arith), h.2);
  view_of = seen.view_of;
}

pub seen : (s : Situation) (standing : List Claim) (views : List ClaimView) (view : ClaimView)
    → AllZip (IsViewOf s) standing views
    → (k : ℕ) → k < length views → get_or views k view ≡ view → IsSeen s standing view
seen s [] [] view all k within is = absurd (omega arith)
seen s [] (other ∷ views) view all k within is = absurd all
seen s (claim ∷ standing) [] view all k within is = absurd all
seen s (claim ∷ standing) (other ∷ views) view all zero within is = record {
  claim = claim;
  stands = (0, omega arith, refl);
  view_of = subst (IsViewOf s claim) is all.0;
}
seen s (claim ∷ standing) (other ∷ views) view all (suc k) within is =
    later s claim standing view (seen s standing views view all.1 k (omega arith) is)

seen_victim : (s : Situation) (views : List ClaimView) (now : ℕ) (steal : Steal) → AreViews s views
    → (is : IsSteal now views steal) → IsSeen s s.standing is.claim
seen_victim s views now steal all is = let listed = is.is.listed in
    seen s s.standing views is.claim all listed.0 listed.1 listed.2

-- it is of a standing claim
pub steal_of : (book : ClaimBook) (s : Situation) (views : List ClaimView) (now : ℕ) (steal : Steal)
    → s.standing ≡ book.standing
    → AreViews s views → IsSteal now views steal → IsStealOf book steal
steal_of book s views now steal same all is =
    let view : ClaimView = is.claim in
    let one = seen_victim s views now steal all is in
    let claim : Claim = one.claim in
    let two = is.is.may.two in
    let own = one.view_of.own.own in
    let from = own_from s claim view.own (omega arith) own in
    let to = own_to s claim view.own (omega arith) own in
    let run : steal.run ≡ later_half view.own = is.run in
    let first : steal.run.first ≡ view.own.first + (view.own.count - view.own.count / 2) =
    ap (λ (r : Run). r.first) run in
    let count : steal.run.count ≡ view.own.count / 2 = ap (λ (r : Run). r.count) run in
    record {
      claim = claim;
      stands = subst (λ (l : List Claim). Contains l claim) same one.stands;
      number = sym one.view_of.id ∙ sym is.victim;
      some = omega arith;
      from = omega arith;
      to = omega arith;
    }

-- and has a mirror
pub steal_mirror : (s : Situation) (views : List ClaimView) (now : ℕ) (steal : Steal) → AreViews s views
    → IsSteal now views steal
    → (mirror : ℕ) × IsMirrorFor s steal.run mirror
steal_mirror s views now steal all is =
    let view : ClaimView = is.claim in
    let one = seen_victim s views now steal all is in
    let able = one.view_of.able.0 is.is.may.able in
    (able.mirror, subst (λ (r : Run). IsMirrorFor s r able.mirror) (sym is.run) able.found)

-- What may be stolen goes by the claims, not by how they were looked at.
use Rattle.std.proofs.Common.{◌≡◌, ℕ, zero, suc, ◌+◌, ◌<◌, ◌≤◌, List, [], ◌∷◌, All, length, get_or, sym, subst, ⊎_elim, arith}
use Rattle.std.specs.Prelude.{IfNone, Option, Some, None}
use Rattle.std.specs.List.{AllZip}
use Rattle.std.proofs.lemmas.List.Elements.{All-contains, All-head, All-tail}
use Rattle.dl_kinds.specs.declared.claims.Claim.{Claim}
use Rattle.dl_kinds.specs.declared.claims.ClaimView.{ClaimView}
use Rattle.dl_kinds.specs.declared.runs.Run.{Run}
use Rattle.segment_claim.specs.Free.{HasNoFreeClaim}
use Rattle.segment_claim.specs.Situation.{Situation}
use Rattle.segment_claim.specs.Book.{ClaimBook}
use Rattle.segment_claim.specs.Sound.{IsWithinBlocks}
use Rattle.segment_claim.specs.Theft.{AreViews, IsStealOf}
use Rattle.slow_steal.specs.declared.theft.Steal.{Steal}
use Rattle.segment_claim.specs.Views.{IsOwnRun, IsViewOf}
use Rattle.slow_steal.specs.Theft.{MayLose}
use Rattle.one_download.specs.Grants.{IsBlockChoice, IsFreeChoice, IsTheftChoice}
use Rattle.one_download.specs.declared.choices.Choice.{Choice}

-- a claim has one own run, where it has own blocks
pub record SameRun (run other : Run) : Type 0 where
  pub first : run.first ≡ other.first
  pub count : run.count ≡ other.count

same_own : (s : Situation) (claim : Claim) (run other : Run) → IsOwnRun s claim run → IsOwnRun s claim other
    → 1 ≤ run.count → SameRun run other
same_own s claim run other is also some =
    let to = also.longest run some is.own in
    let more : 1 ≤ other.count = ⊎_elim (λ (l : run.count < other.count). omega arith)
    (λ (e : (run.count ≡ other.count) × (run.first ≤ other.first)). let c = e.0 in omega arith) to in
    let from = is.longest other more also.own in
    ⊎_elim
    (λ (l : run.count < other.count).
    ⊎_elim (λ (m : other.count < run.count). absurd (omega arith))
    (λ (e : (other.count ≡ run.count) × (other.first ≤ run.first)). let c = e.0 in absurd (omega arith)) from)
    (λ (e : (run.count ≡ other.count) × (run.first ≤ other.first)).
    ⊎_elim (λ (m : other.count < run.count). let c = e.0 in absurd (omega arith))
    (λ (d : (other.count ≡ run.count) × (other.first ≤ run.first)).
    let low = e.1 in let high = d.1 in record { first = omega arith; count = e.0 }) from)
    to

-- what may be lost by one look may be lost by another
may_lose_too : (s : Situation) (claim : Claim) (view other : ClaimView) → IsViewOf s claim view → IsViewOf s claim other
    → MayLose view → MayLose other
may_lose_too s claim view other is also may =
    let two = may.two in
    let same = same_own s claim view.own other.own is.own also.own (omega arith) in
    let able = is.able.0 may.able in
    let first = same.first in
    let count = same.count in
    record {
      able = also.able.1 (record {
        whole = able.whole;
        two = omega arith;
        mirror = able.mirror;
        found = rw (← first, ← count) able.found;
      });
      two = omega arith;
    }

no_loss_in : (s : Situation) (standing : List Claim) (views others : List ClaimView) (view : ClaimView)
    → AllZip (IsViewOf s) standing views → AllZip (IsViewOf s) standing others → All (λ v. ¬ MayLose v) views
    → (k : ℕ) → k < length others → get_or others k view ≡ view → MayLose view → ⊥
no_loss_in s [] [] [] view all also none k within is may = absurd (omega arith)
no_loss_in s [] [] (o ∷ os) view all also none k within is may = absurd also
no_loss_in s [] (v ∷ vs) others view all also none k within is may = absurd all
no_loss_in s (c ∷ cs) [] others view all also none k within is may = absurd all
no_loss_in s (c ∷ cs) (v ∷ vs) [] view all also none k within is may = absurd also
no_loss_in s (c ∷ cs) (v ∷ vs) (o ∷ os) view all also none zero within is may =
    All-head (λ (w : ClaimView). ¬ MayLose w) v vs none
    (may_lose_too s c o v also.0 all.0 (subst MayLose (sym is) may))
no_loss_in s (c ∷ cs) (v ∷ vs) (o ∷ os) view all also none (suc k) within is may =
    no_loss_in s cs vs os view all.1 also.1 (All-tail (λ (w : ClaimView). ¬ MayLose w) v vs none) k (omega arith) is may

-- where no view may lose blocks there is no theft
pub no_theft : (s : Situation) (now : ℕ) (views : List ClaimView) → AreViews s views → All (λ v. ¬ MayLose v) views
    → (choice : Choice) → ¬ IsTheftChoice s now choice
no_theft s now views are none choice is =
    let theft = is.theft in
    let victim = theft.slowest.is in
    let listed = victim.listed in
    no_loss_in s s.standing views theft.views theft.slowest.claim are theft.seen none listed.0 listed.1 listed.2
    victim.may

-- a free claim is none where no mirror is found for any stretch
pub no_free : (s : Situation) → HasNoFreeClaim s → (choice : Choice) → ¬ IsFreeChoice s choice
no_free s none choice is = none is.free.stretch choice.mirror is.free.grantable

-- what is stolen is of the payload
pub steal_within : (book : ClaimBook) (steal : Steal) (blocks : ℕ) → IsStealOf book steal
    → All (IsWithinBlocks blocks) book.standing → steal.run.first + steal.run.count ≤ blocks
steal_within book steal blocks of all =
    let within = (All-contains (IsWithinBlocks blocks) book.standing of.claim all of.stands).within in
    let to = of.to in
    omega arith

-- neither is a choice of blocks, where there is no theft
pub no_choice : (s : Situation) (now : ℕ) (o : Option Choice) → HasNoFreeClaim s
    → IfNone o ((choice : Choice) → ¬ IsTheftChoice s now choice)
    → IfNone o ((choice : Choice) → ¬ IsBlockChoice s now choice)
no_choice s now None nothing none = λ choice is.
    ⊎_elim (λ (free : IsFreeChoice s choice). no_free s nothing choice free)
    (λ (theft : IsTheftChoice s now choice). none choice theft) is.blocks
no_choice s now (Some c) nothing none = tt

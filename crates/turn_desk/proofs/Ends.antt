-- How a desk of several threads begins and ends.
use Rattle.std.proofs.Common.{◌≡◌, ⊎_elim, ℕ, zero, suc, ◌+◌, ◌-◌, ◌<◌, ◌≤◌, ◌%◌, ◌^◌, false, List, [], ◌∷◌, ◌++◌, map, length, refl, ap, sym, ◌∙◌, subst, arith, Some, None, slice_get, slice_index_or}
use Rattle.std.specs.List.{All}
use mathlib.Core.Option.{some, some-injective, some-ne-none}
use lib.ListN.{get_elem?}
use Rattle.atomic_table.specs.Table.{Me, Splits, Joins, opening, Final, Seen}
use Rattle.turn_desk.specs.declared.served.Served.{Ghosts as ServedSays}
use Rattle.turn_desk.specs.declared.turn.Turn.{Turn}
use Rattle.turn_desk.specs.declared.turn.Given.{Given}
use Rattle.turn_desk.specs.declared.rule.Slot.{Slot}
use Rattle.turn_desk.specs.declared.rule.Share.{Share}
use Rattle.turn_desk.specs.declared.rule.SeatView.{SeatView}
use Rattle.turn_desk.specs.declared.turn.Sight.{Sight}
use Rattle.turn_desk.specs.Turns.{turns_by}
use Rattle.turn_desk.specs.Sights.{DeskId}
use Rattle.turn_desk.specs.States.{IsOwned, IsSolo}
use Rattle.turn_desk.specs.Passes.{TurnDeskView, PassView, IsPassOf, AreNewPasses, IsClosed}
use Rattle.turn_desk.specs.Rule.{share, one_number, dealing, dealer, dealt, longer_of, gathered, spent_view, IsRuled, first_share, share_of, pass_of, IsPlaying, IsDealing, IsGathering, IsDealt, AreDealt, HaveAll, EndsAt}
use Rattle.turn_desk.proofs.Places.{some_same, some_not_none, snoc_get}
use Rattle.turn_desk.proofs.Orders.{none_by}
use Rattle.turn_desk.proofs.Passing.{opens, deals, joins, ends}

module _ {S T O A E : Type 0} (given : Given T E) where
  -- what a seat gave that handed a number on
  pub handed : (z : DeskId) (passes : ℕ) (base : List (Turn O A E)) (next left : ℕ)
      (m m' new : Me (Slot S O A) (SeatView T O A E)) → IsDealing given base next left m → m' ≡ (dealer m.0, m.1)
      → new ≡ (dealt m.0, [])
      → IsDealing given base (next + 1) (left - 1) m' × IsPlaying new
      × IsDealt (record { desk_id = z; given = given; passes = passes }) base next (pass_of z new)
  handed z passes base next left m m' new is now gone =
      let own : List (Turn O A E) = turns_by next base in
      let e : new ≡ (one_number given next base own None false, []) = gone
      ∙ ap (λ (x : Me (Slot S O A) (SeatView T O A E)). (dealt x.0, [])) is in (
        now ∙ ap (λ (x : Me (Slot S O A) (SeatView T O A E)). (dealer x.0, x.1)) is,
        (given, (next, base, own, e)),
        subst (λ (x : Me (Slot S O A) (SeatView T O A E)). IsDealt
            (record { desk_id = z; given = given; passes = passes }) base next (pass_of z x)) (sym e)
            record { of_desk = (refl, refl); number_is = refl; seen = refl; own = refl },
      )

  -- a pass of this desk is a seat with one share
  pub plays : (z : DeskId) (pass : PassView T O A E) (m : Me (Slot S O A) (SeatView T O A E)) → pass ≡ pass_of z m
      → IsPlaying m → pass.given ≡ Some given → IsGathering given (share_of pass ∷ []) m
  plays z pass m is p own =
      let e = p.1.3 in
      let g : p.0 ≡ given = some_same p.0 given
      (sym (ap (λ (x : PassView T O A E). x.given) is
      ∙ ap (λ (x : Me (Slot S O A) (SeatView T O A E)). x.0.given) e) ∙ own) in
      let h : share_of pass ≡ share p.1.0 p.1.2 = ap (λ (x : PassView T O A E). share_of x) is
      ∙ ap (λ (x : Me (Slot S O A) (SeatView T O A E)). share (first_share x.0.shares).number
      (first_share x.0.shares).own) e in (
        p.1.1,
        e ∙ (λ i. (
          record {
            given = Some (g i);
            next = 0;
            left = 0;
            seen = p.1.1;
            shares = sym h i ∷ [];
            ticket = None;
            has_turn = false;
          },
          [],
        )),
      )

  pub took_in : (gs hs : List (Share O A E)) (m m' now : Me (Slot S O A) (SeatView T O A E)) → IsGathering given gs m
      → IsGathering given hs m' → now ≡ (gathered m.0 m'.0, m.1) → IsGathering given (gs ++ hs) now
  took_in gs hs m m' now p q e = (longer_of p.0 q.0, e ∙ (λ i. (gathered (p.1 i).0 (q.1 i).0, (p.1 i).1)))

module _ {S T O A E : Type 0} (says : ServedSays S T O A E) where
  -- the state and the turns of an owner's desk may go into a table
  pub may_open : (solo solo' : Sight T O A E) (x x' : S) (passes taken p : ℕ) (slots : List (Slot S O A))
      → solo' ≡ solo → x' ≡ x → p ≡ passes → taken ≡ length solo.seen % 2 ^ 64
      → slots ≡ record { served = Some x'; last = None } ∷ [] → IsSolo says solo x → 1 ≤ passes → passes < 2 ^ 32
      → IsRuled says solo'.given passes
      (opening (taken ∷ taken ∷ p ∷ []) slots (dealing solo'.given solo'.seen 0 passes))
  may_open solo solo' x x' passes taken p slots es ex ep et ei is some_passes few =
      let items : slots ≡ record { served = Some x; last = None } ∷ [] = ei
      ∙ ap (λ (z : S). record { served = Some z; last = None } ∷ []) ex in
      subst (λ (z : Sight T O A E × ℕ × ℕ × List (Slot S O A)). IsRuled says z.0.given passes
      (opening (z.1 ∷ z.1 ∷ z.2 ∷ []) z.3 (dealing z.0.given z.0.seen 0 passes)))
      (λ i. (sym es i, sym et i, sym ep i, sym items i))
      (opens says solo.given passes x solo.seen is.at is.whole
      (λ earlier t later e. let zero = is.owned.alone earlier t later e in omega (arith, zero, some_passes)) few)

  pub may_deal : (given : Given T E) (passes id : ℕ) (base : List (Turn O A E)) (next left : ℕ)
      (m : Me (Slot S O A) (SeatView T O A E)) → 0 < left → IsDealing given base next left m
      → Splits (IsRuled says given passes) id m.0 (dealer m.0) (dealt m.0)
  may_deal given passes id base next left m lt is =
      subst (λ (x : Me (Slot S O A) (SeatView T O A E)). Splits (IsRuled says given passes) id x.0 (dealer x.0)
      (dealt x.0)) (sym is) (deals says given passes base id next left lt)

  pub may_join : (given : Given T E) (passes id other : ℕ) (gs hs : List (Share O A E))
      (m m' : Me (Slot S O A) (SeatView T O A E)) → IsGathering given gs m → IsGathering given hs m'
      → Joins (IsRuled says given passes) id m.0 other m'.0 (gathered m.0 m'.0) spent_view
  may_join given passes id other gs hs m m' p q =
      subst (λ (x : Me (Slot S O A) (SeatView T O A E) × Me (Slot S O A) (SeatView T O A E)). Joins
      (IsRuled says given passes) id x.0.0 other x.1.0 (gathered x.0.0 x.1.0) spent_view)
      (λ i. (sym p.1 i, sym q.1 i))
      (joins says given passes id other p.0 q.0 gs hs)

module _ {T O A E : Type 0} where
  pub dealt_more : (desk : TurnDeskView T E) (base : List (Turn O A E)) (k : ℕ) (xs : List (PassView T O A E))
      (pass : PassView T O A E) → AreDealt desk base xs → length xs ≡ k
      → IsDealt desk base k pass → AreDealt desk base (xs ++ pass ∷ [])
  dealt_more desk base k xs pass all len one j p e = ⊎_elim (λ t. all j p t)
      (λ (t : (j ≡ length xs) × (pass ≡ p)). subst (λ (y : ℕ × PassView T O A E). IsDealt desk base y.0 y.1)
      (λ i. (sym (t.0 ∙ len) i, t.1 i)) one)
      (snoc_get xs pass p j e)

  index_is : (xs : List (PassView T O A E)) (k : ℕ) (d : PassView T O A E) → k < length xs
      → slice_get xs k ≡ Some (slice_index_or xs k d)
  index_is [] k d lt = absurd (omega (arith, lt))
  index_is (x ∷ xs) zero d lt = refl
  index_is (x ∷ xs) (suc k) d lt = index_is xs k d (omega (arith, lt))

  -- the passes that were dealt are of the desk
  pub all_of_desk : (desk : TurnDeskView T E) (base : List (Turn O A E)) (passes : List (PassView T O A E))
      → AreDealt desk base passes → All (IsPassOf desk) passes
  all_of_desk desk base passes dealt k d lt = (dealt k (slice_index_or passes k d) (index_is passes k d lt)).of_desk

  -- the passes that were dealt of an owner's desk
  pub new_passes : (solo : Sight T O A E) (desk : TurnDeskView T E) (passes : List (PassView T O A E)) → IsOwned solo
      → AreDealt desk solo.seen passes → AreNewPasses solo desk passes
  new_passes solo desk passes is all number pass at =
      let d = all number pass at in record {
        of_desk = d.of_desk;
        number_is = d.number_is;
        seen = d.seen;
        first = λ e. d.own ∙ (ap (λ k. turns_by k solo.seen) (e ∙ sym is.number) ∙ is.mine);
        others = λ above. d.own ∙ none_by 0 number solo.seen (λ e. absurd (omega (arith, above, e))) is.alone;
      }

  -- a pass among all, and its share
  share_at : (passes : List (PassView T O A E)) (j : ℕ) (p : PassView T O A E) → slice_get passes j ≡ Some p
      → get_elem? (map share_of passes) j ≡ some (share_of p)
  share_at [] j p e = some_not_none p (sym e)
  share_at (x ∷ xs) zero p e = ap (λ (z : PassView T O A E). some (share_of z)) (some_same x p e)
  share_at (x ∷ xs) (suc j) p e = share_at xs j p e

  pass_at : (passes : List (PassView T O A E)) (j : ℕ) (h : Share O A E) → get_elem? (map share_of passes) j ≡ some h
      → (p : PassView T O A E) × (slice_get passes j ≡ Some p) × (share_of p ≡ h)
  pass_at [] j h e = absurd (some-ne-none h (sym e))
  pass_at (x ∷ xs) zero h e = (x, refl, some-injective (share_of x) h e)
  pass_at (x ∷ xs) (suc j) h e = pass_at xs j h e

  pub shares_length : (passes : List (PassView T O A E)) → length (map share_of passes) ≡ length passes
  shares_length [] = refl
  shares_length (x ∷ xs) = ap suc (shares_length xs)

  pub closed_by : (relates : T → List (Turn O A E) → Turn O A E → Type 0) (desk : TurnDeskView T E)
      (passes : List (PassView T O A E)) (turns : List (Turn O A E))
      → HaveAll relates desk.given desk.passes turns (map share_of passes) → IsClosed relates desk passes turns
  closed_by relates desk passes turns all = record {
    whole = all.whole;
    numbered = all.numbered;
    count = sym (shares_length passes) ∙ all.count;
    own = λ place pass at. all.share_is place (share_of pass) (share_at passes place pass at);
    apart = λ i j p q at at' same. all.apart i j (share_of p) (share_of q) (share_at passes i p at)
        (share_at passes j q at') same;
    all = λ number small. let a = all.all number small in let p = pass_at passes a.0 a.1 a.2 in
        (a.0, p.0, p.1, ap (λ (h : Share O A E). h.number) p.2 ∙ a.3);
  }

module _ {S T O A E : Type 0} (says : ServedSays S T O A E) where
  pub closes : (given : Given T E) (passes id : ℕ) (shares : List (Share O A E))
      (m : Me (Slot S O A) (SeatView T O A E)) (words : List ℕ) (slots : List (Slot S O A)) (slot : Slot S O A)
      → Final (Seen (IsRuled says given passes) id m.0) words slots → IsGathering given shares m
      → passes ≤ length shares → get_elem? slots 0 ≡ some slot
      → (x : S) × (slot.served ≡ Some x) × EndsAt says given passes shares x
  closes given passes id shares m words slots slot f is enough at =
      let s = f.0 in
      let e = ends says given passes s f.1.0 id is.0 shares (f.1.1
      ∙ ap (λ (x : Me (Slot S O A) (SeatView T O A E)). some x.0) is.1) enough in
      let same : slot ≡ e.1 = some-injective slot e.1 (sym at ∙ f.4 0 e.1 (ap (λ hs. get_elem? hs 0) e.3)) in
      (e.2, ap (λ (h : Slot S O A). h.served) same ∙ e.4, (e.0, e.5, e.6))

-- Which turns are whose, and in which order they stand.
use Rattle.std.proofs.Common.{◌≡◌, ◌≢◌, Bool, true, false, ℕ, ◌+◌, ◌≤◌, List, [], ◌∷◌, ◌++◌, length, eqb, cond, sym, refl, ap, ◌∙◌, subst, arith, append_assoc, length-append, eq-eqb, ne_eqb, eqb-true, slice_get, Some}
use Rattle.turn_desk.specs.declared.turn.Turn.{Turn}
use Rattle.turn_desk.specs.declared.turn.Given.{Given}
use Rattle.turn_desk.specs.declared.turn.Sight.{Sight}
use Rattle.turn_desk.specs.Turns.{turns_by, events_of, AreTurns}
use Rattle.turn_desk.specs.Sights.{Knows}
use Rattle.turn_desk.specs.States.{AreBy, IsOwned}
use Rattle.turn_desk.specs.Passes.{TurnDeskView, PassView, IsClosed}
use Rattle.turn_desk.specs.Laws.{IsPlaced, OwnTurnsArePlaced, RankZeroIsFirst, OwnPlacesAscend, IsOwnOf, EachTurnHasOnePass}
use Rattle.turn_desk.proofs.Grows.{same_head, same_tail, not_nil}

module _ {O A E : Type 0} where
  by_head : (k : ℕ) (t : Turn O A E) (ts : List (Turn O A E)) → t.pass ≡ k → turns_by k (t ∷ ts) ≡ t ∷ turns_by k ts
  by_head k t ts e = ap (λ b. cond b (t ∷ turns_by k ts) (turns_by k ts)) (eq-eqb t.pass k e)

  by_else : (k : ℕ) (t : Turn O A E) (ts : List (Turn O A E)) → t.pass ≢ k → turns_by k (t ∷ ts) ≡ turns_by k ts
  by_else k t ts n = ap (λ b. cond b (t ∷ turns_by k ts) (turns_by k ts)) (ne_eqb t.pass k n)

  -- where all turns are of one pass, they are its turns
  pub all_by : (k : ℕ) (turns : List (Turn O A E)) → AreBy k turns → turns_by k turns ≡ turns
  all_by k [] same = refl
  all_by k (t ∷ ts) same = by_head k t ts (same [] t ts refl)
      ∙ ap (λ l. t ∷ l) (all_by k ts (λ earlier u later e. same (t ∷ earlier) u later (ap (λ l. t ∷ l) e)))

  -- and no other pass has any
  pub none_by : (k j : ℕ) (turns : List (Turn O A E)) → k ≢ j → AreBy k turns → turns_by j turns ≡ []
  none_by k j [] n same = refl
  none_by k j (t ∷ ts) n same = by_else j t ts (λ e. n (sym (same [] t ts refl) ∙ e))
      ∙ none_by k j ts n (λ earlier u later e. same (t ∷ earlier) u later (ap (λ l. t ∷ l) e))

  both_step : (x : Turn O A E) (l m n : List (Turn O A E)) (b : Bool) → l ≡ m ++ n
      → cond b (x ∷ l) l ≡ cond b (x ∷ m) m ++ n
  both_step x l m n true e = ap (λ z. x ∷ z) e
  both_step x l m n false e = e

  pub by_both : (k : ℕ) (xs ys : List (Turn O A E)) → turns_by k (xs ++ ys) ≡ turns_by k xs ++ turns_by k ys
  by_both k [] ys = refl
  by_both k (x ∷ xs) ys = both_step x (turns_by k (xs ++ ys)) (turns_by k xs) (turns_by k ys) (eqb x.pass k)
      (by_both k xs ys)

  pub events_both : (xs ys : List (Turn O A E)) → events_of (xs ++ ys) ≡ events_of xs ++ events_of ys
  events_both [] ys = refl
  events_both (x ∷ xs) ys = ap (λ es. x.events ++ es) (events_both xs ys)
      ∙ sym (append_assoc x.events (events_of xs) (events_of ys))

  -- where a turn of a pass stands among all, and which of the pass stand before it
  abbrev pub At : ℕ → List (Turn O A E) → List (Turn O A E) → Turn O A E → List (Turn O A E) → Type 0
  At k turns front t back = (earlier later : List (Turn O A E)) × (turns ≡ earlier ++ t ∷ later) × (t.pass ≡ k)
      × (turns_by k earlier ≡ front) × (turns_by k later ≡ back)

  found_in : (k : ℕ) (u : Turn O A E) (us front : List (Turn O A E)) (t : Turn O A E) (back : List (Turn O A E))
      (b : Bool) → eqb u.pass k ≡ b
      → cond b (u ∷ turns_by k us) (turns_by k us) ≡ front ++ t ∷ back
      → ((front' : List (Turn O A E)) → turns_by k us ≡ front' ++ t ∷ back → At k us front' t back)
      → At k (u ∷ us) front t back
  found_in k u us [] t back true is e more =
      let head = same_head u t (turns_by k us) back e in (
        [],
        us,
        ap (λ x. x ∷ us) head,
        ap (λ (x : Turn O A E). x.pass) (sym head)
            ∙ eqb-true u.pass k is,
        refl,
        same_tail u t (turns_by k us) back e,
      )
  found_in k u us (x ∷ front) t back true is e more =
      let head = same_head u x (turns_by k us) (front ++ t ∷ back) e in
      let m = more front (same_tail u x (turns_by k us) (front ++ t ∷ back) e) in
      (u ∷ m.0, m.1, ap (λ l. u ∷ l) m.2, m.3, by_head k u m.0 (eqb-true u.pass k is) ∙ (λ i. head i ∷ m.4 i), m.5)
  found_in k u us front t back false is e more =
      let m = more front e in
      (u ∷ m.0, m.1, ap (λ l. u ∷ l) m.2, m.3, ap (λ b. cond b (u ∷ turns_by k m.0) (turns_by k m.0)) is ∙ m.4, m.5)

  pub found : (k : ℕ) (turns front : List (Turn O A E)) (t : Turn O A E) (back : List (Turn O A E))
      → turns_by k turns ≡ front ++ t ∷ back → At k turns front t back
  found k [] front t back e = not_nil t front back e
  found k (u ∷ us) front t back e =
      found_in k u us front t back (eqb u.pass k) refl e (λ front' e'. found k us front' t back e')

  pub owns_all : {T : Type 0} (s : Sight T O A E) → IsOwned s → s.seen ≡ s.own
  owns_all s is = sym (ap (λ k. turns_by k s.seen) is.number ∙ all_by 0 s.seen is.alone) ∙ is.mine

module _ {T O A E : Type 0} (relates : T → List (Turn O A E) → Turn O A E → Type 0) where
  placed_in : (s : Sight T O A E) (front : List (Turn O A E)) (t : Turn O A E) (back : List (Turn O A E))
      → Knows relates s → s.own ≡ front ++ t ∷ back → IsPlaced relates s front t
  placed_in s front t back knows own =
      let f = found s.number s.seen front t back (knows.mine ∙ own) in record {
        earlier = f.0;
        later = f.1;
        seen = f.2;
        turn = knows.whole f.0 t f.1 f.2;
        pass = f.3;
        own = f.4;
      }

  pub own_placed : OwnTurnsArePlaced relates
  own_placed s s' front t back went =
      placed_in s' (s.own ++ front) t back (went.knows (λ e. not_nil t front back (sym e))) (went.own
      ∙ sym (append_assoc s.own front (t ∷ back)))

  pub zero_first : RankZeroIsFirst relates
  zero_first given turns pass t rest all mine rank =
      let f = found pass turns [] t rest mine in
      let none : f.0 ≡ [] = no_length f.0 (sym (all f.0 t f.1 f.2).rank ∙ rank) in
      (f.1, f.2 ∙ ap (λ l. l ++ t ∷ f.1) none)
    where
      no_length : (xs : List (Turn O A E)) → length xs ≡ 0 → xs ≡ []
      no_length [] e = refl
      no_length (x ∷ xs) e = absurd (omega (arith, e))

  -- the places of two turns of the list, one behind the other
  ascends : (given : Given T E) (turns front : List (Turn O A E)) (t : Turn O A E) (between : List (Turn O A E))
      (u : Turn O A E) (back : List (Turn O A E))
      → AreTurns relates given turns → turns ≡ front ++ t ∷ (between ++ u ∷ back) → t.place + length t.events ≤ u.place
  ascends given turns front t between u back all is =
      let at_t = (all front t (between ++ u ∷ back) is).place in
      let at_u = (all (front ++ t ∷ between) u back (is ∙ sym (append_assoc front (t ∷ between) (u ∷ back)))).place in
      let split = events_both front (t ∷ between) in
      let n = length-append given.entries (events_of front) in
      let m = length-append given.entries (events_of (front ++ t ∷ between)) in
      let o = ap length split ∙ length-append (events_of front) (events_of (t ∷ between)) in
      let p = length-append t.events (events_of between) in
      omega (arith, at_t, at_u, n, m, o, p)

  pub places_ascend : OwnPlacesAscend relates
  places_ascend given turns pass front t between u back all mine =
      let f = found pass turns front t (between ++ u ∷ back) mine in
      let h = found pass f.1 between u back f.5 in
      ascends given turns f.0 t h.0 u h.1 all (f.2 ∙ ap (λ l. f.0 ++ t ∷ l) h.2)

  -- of a turn that a pass has as its own
  own_number : (desk : TurnDeskView T E) (passes : List (PassView T O A E)) (turns : List (Turn O A E)) (place : ℕ)
      (pass : PassView T O A E) (t : Turn O A E)
      → IsClosed relates desk passes turns → slice_get passes place ≡ Some pass → IsOwnOf t pass → t.pass ≡ pass.number
  own_number desk passes turns place pass t closed at own =
      (found pass.number turns own.0 t own.1 ((closed.own place pass at).1 ∙ own.2)).3

  pub one_pass : EachTurnHasOnePass relates
  one_pass desk passes turns earlier t later closed is =
      let a = closed.all t.pass (closed.numbered earlier t later is) in
      let whole = (closed.own a.0 a.1 a.2).1 in
      let mine : turns_by t.pass turns ≡ a.1.own = subst (λ k. turns_by k turns ≡ a.1.own) a.3 whole in
      let cut : turns_by t.pass turns ≡ turns_by t.pass earlier ++ t ∷ turns_by t.pass later =
      ap (turns_by t.pass) is ∙ (by_both t.pass earlier (t ∷ later)
      ∙ ap (λ l. turns_by t.pass earlier ++ l) (by_head t.pass t later refl)) in (
        a.0,
        a.1,
        a.2,
        (turns_by t.pass earlier, turns_by t.pass later, sym mine ∙ cut),
        λ i p at own. closed.apart i a.0 p a.1 at a.2 (sym (own_number desk passes turns i p t closed at own)
            ∙ sym a.3),
      )

-- Each step of a pass keeps the rule of the table: a desk is opened, a number is handed on, seats are joined; and how it ends.
use Rattle.std.proofs.Common.{◌≡◌, ◌≢◌, inl, inr, ⊎_elim, ℕ, ◌+◌, ◌<◌, ◌≤◌, ◌%◌, ◌^◌, Bool, true, false, cond, List, [], ◌∷◌, ◌++◌, set, length, refl, ap, sym, ◌∙◌, subst, arith, length-append, Some, None, nat_le}
use Rattle.std.proofs.lemmas.List.{append-nil}
use mathlib.Core.Logic.{dite}
use mathlib.Core.Option.{some, none, some-injective, some-ne-none}
use mathlib.Core.Option as maybe
use native.Mathlib.Decide.{ℕ_discrete}
use lib.ListN.{get_elem?}
use Rattle.atomic_table.specs.Table.{State, Splits, Joins, opening}
use Rattle.atomic_table.proofs.Lists.{at_set, set_here, set_else, at_longer, at_last}
use Rattle.turn_desk.specs.declared.served.Served.{Ghosts as ServedSays}
use Rattle.turn_desk.specs.declared.turn.Turn.{Turn}
use Rattle.turn_desk.specs.declared.turn.Given.{Given}
use Rattle.turn_desk.specs.declared.rule.Slot.{Slot}
use Rattle.turn_desk.specs.declared.rule.Share.{Share}
use Rattle.turn_desk.specs.declared.rule.SeatView.{SeatView}
use Rattle.turn_desk.specs.Turns.{turns_by, StartsWith, AreTurns}
use Rattle.turn_desk.specs.Rule.{numbers_of, waits, share, spent_view, dealing, dealer, dealt, gathering, longer_of, gathered, Suits, HasNumber, LiesHome, IsRuled, tickets, HaveAll}
use Rattle.turn_desk.specs.States.{IsAt}
use Rattle.turn_desk.specs.Passes.{AreNumbered}
use Rattle.turn_desk.proofs.Sums.{sum_set, sum_snoc, sum_at, sum_two}
use Rattle.turn_desk.proofs.Places.{put, put_here, put_else, true_not_false, at_lt, each_set, at_both, at_right, at_one, each_more, length_set, some_not_none}
use Rattle.turn_desk.proofs.Views.{lies_still}

module _ {S T O A E : Type 0} (says : ServedSays S T O A E) (given : Given T E) (passes : ℕ) where
  abbrev V : Type 0
  V = SeatView T O A E

  abbrev Ts : Type 0
  Ts = List (Turn O A E)

  abbrev H : Type 0
  H = Slot S O A

  abbrev St : Type 0
  St = State H V

  abbrev R : St → Type 0
  R = IsRuled says given passes

  abbrev L : Ts → List V → maybe.Option H → Type 0
  L = LiesHome says given

  -- a seat that has numbers to hand on
  abbrev at_first : Ts → ℕ → ℕ → V
  at_first base next left = dealing given base next left

  pub opens : (x : S) (base : Ts) → IsAt says given base x → AreTurns says.relates given base
      → AreNumbered passes base → passes < 2 ^ 32
      → R (opening (length base % 2 ^ 64 ∷ length base % 2 ^ 64 ∷ passes ∷ [])
      (record { served = Some x; last = None } ∷ []) (at_first base 0 passes))
  opens x base isat all numbered few = record {
    turns = base;
    drawn = length base;
    owner = λ _. 0;
    holder = λ _. 0;
    words = refl;
    few = few;
    shared_out = omega arith;
    queue = omega arith;
    whole = all;
    numbered = numbered;
    slot = (
      some record { served = Some x; last = None },
      refl,
      ((x, refl, isat), λ i v e. ap (λ (d : V). d.has_turn) (sym (at_one (at_first base 0 passes) v i e).1)),
    );
    each = λ i v e. let o = at_one (at_first base 0 passes) v i e in
        subst (λ (z : ℕ × V). Suits given passes (length base) base (λ _. 0) (λ _. 0) z.0 z.1)
        (λ c. (sym o.0 c, o.1 c)) record {
          given_is = λ _. refl;
          seen = ([], sym (append-nil base));
          ticket = λ k f. some_not_none k (sym f);
          turn = λ f. true_not_false false f refl;
          waits_once = omega arith;
          shares = λ j g f. absurd (some-ne-none g (sym f));
          apart = λ j k f g a b _. absurd (some-ne-none f (sym a));
          left = λ k a b. (omega arith, refl, refl);
        };
    had = λ k lt. (at_first base 0 passes, refl, inr (omega arith, omega arith));
  }

  -- another view comes that has no turn
  lies_more : (turns : Ts) (vs : List V) (w : V) (h : maybe.Option H) → w.has_turn ≡ false → L turns vs h
      → L turns (vs ++ w ∷ []) h
  lies_more turns vs w (some h) f l = (l.0, each_more (λ _ d. d.has_turn ≡ false) vs w f l.1)
  lies_more turns vs w none f l = (l.0, l.1, at_longer vs (w ∷ []) l.0 l.1 l.2, l.3)

  at_last_one : (vs : List V) (w : V) → get_elem? (vs ++ w ∷ []) (length vs) ≡ some w
  at_last_one vs w = at_last vs w (length vs) refl

  left_on : (base : Ts) (next left k : ℕ) → k ≢ next → HasNumber k (at_first base next left)
      → HasNumber k (dealer (at_first base next left))
  left_on base next left k ne f =
      ⊎_elim (λ (p : (j : ℕ) × (h : Share O A E) × (get_elem? [] j ≡ some h) × (h.number ≡ k)). absurd
      (some-ne-none p.1 (sym p.2)))
      (λ (p : (next ≤ k) × (k < next + left)). let a = p.0 in let b = p.1 in inr (omega arith, omega arith)) f

  pub deals : (base : Ts) (id next left : ℕ) → 0 < left
      → Splits R id (at_first base next left) (dealer (at_first base next left)) (dealt (at_first base next left))
  deals base id next left some_left s r at =
      let v : V = at_first base next left in
      let l : V = dealer v in
      let w : V = dealt v in
      let vs : List V = set s.views id l in
      let new : ℕ = length s.views in
      let same_length : length vs ≡ new = length_set s.views id l in
      let mine = r.each id v at in
      let here = mine.left next (omega arith) (omega arith) in
      let p = sum_set numbers_of s.views id v l at in
      let q = sum_set waits s.views id v l at in
      let p' = sum_snoc numbers_of vs w in
      let q' = sum_snoc waits vs w in
      let so = r.shared_out in
      let qu = r.queue in
      let lt : id < new = at_lt s.views id v at in
      let owner : ℕ → ℕ = put r.owner next new in record {
        turns = r.turns;
        drawn = r.drawn;
        owner = owner;
        holder = r.holder;
        words = r.words;
        few = r.few;
        shared_out = omega arith;
        queue = omega arith;
        whole = r.whole;
        numbered = r.numbered;
        slot = (
          r.slot.0,
          r.slot.1,
          lies_more r.turns vs w r.slot.0 refl
              (lies_still says given passes r.turns s.views id v l r.slot.0 at refl refl r.slot.2),
        );
        each = each_more (Suits given passes r.drawn r.turns owner r.holder) vs w
            record {
              given_is = λ _. refl;
              seen = mine.seen;
              ticket = λ k f. some_not_none k (sym f);
              turn = λ f. true_not_false false f refl;
              waits_once = omega arith;
              shares = λ j g f. subst (λ (z : Share O A E). (z.number < passes) × (owner z.number ≡ length vs)
                  × (turns_by z.number r.turns ≡ z.own)) (at_one (share next (turns_by next base)) g j f).1
                  (here.0, put_here r.owner next new next refl ∙ sym same_length, here.2);
              apart = λ j k f g a b _. (at_one (share next (turns_by next base)) f j a).0
                  ∙ sym (at_one (share next (turns_by next base)) g k b).0;
              left = λ k a b. absurd (omega arith);
            }
            (each_set (Suits given passes r.drawn r.turns owner r.holder) s.views id l
            record {
              given_is = λ _. refl;
              seen = mine.seen;
              ticket = mine.ticket;
              turn = mine.turn;
              waits_once = omega arith;
              shares = λ j g f. absurd (some-ne-none g (sym f));
              apart = λ j k f g a b _. absurd (some-ne-none f (sym a));
              left = λ k a b. let z = mine.left k (omega arith) (omega arith) in
                  (z.0, put_else r.owner next new k (λ c. omega arith) ∙ z.1, z.2);
            }
            (λ j d ne f. let u = r.each j d f in record {
              given_is = u.given_is;
              seen = u.seen;
              ticket = u.ticket;
              turn = u.turn;
              waits_once = u.waits_once;
              shares = λ i g e. let z = u.shares i g e in
                  (z.0, put_else r.owner next new g.number (λ c. ne (sym z.1 ∙ (ap r.owner c ∙ here.1))) ∙ z.1, z.2);
              apart = u.apart;
              left = λ k a b. let z = u.left k a b in
                  (z.0, put_else r.owner next new k (λ c. ne (sym z.1 ∙ (ap r.owner c ∙ here.1))) ∙ z.1, z.2);
            }));
        had = λ k small. dite (ℕ_discrete k next)
            (λ e. (
              w,
              ap (get_elem? (vs ++ w ∷ [])) (put_here r.owner next new k e ∙ sym same_length)
                  ∙ at_last_one vs w,
              inl (0, share next (turns_by next base), refl, sym e),
            ))
            (λ ne. let o = r.had k small in let places = put_else r.owner next new k ne in
            dite (ℕ_discrete (r.owner k) id)
            (λ e. (
              l,
              at_longer vs (w ∷ []) (owner k) l (ap (get_elem? vs) (places ∙ e) ∙ set_here s.views id l lt),
              left_on base next left k ne (subst (HasNumber k)
                  (some-injective o.0 v (sym o.1 ∙ (ap (get_elem? s.views) e ∙ at))) o.2),
            ))
            (λ other. (
              o.0,
              at_longer vs (w ∷ []) (owner k) o.0 (ap (get_elem? vs) places
                  ∙ (set_else s.views id (r.owner k) l other ∙ o.1)),
              o.2,
            )));
      }

  starts_longer : (turns xs ys : Ts) (b : Bool) → StartsWith turns xs → StartsWith turns ys
      → StartsWith turns (cond b ys xs)
  starts_longer turns xs ys true p q = q
  starts_longer turns xs ys false p q = p

  has_left : (seen seen' : Ts) (gs hs : List (Share O A E)) (k : ℕ) → HasNumber k (gathering given seen gs)
      → HasNumber k (gathering given seen' (gs ++ hs))
  has_left seen seen' gs hs k f =
      ⊎_elim (λ (p : (j : ℕ) × (h : Share O A E) × (get_elem? gs j ≡ some h) × (h.number ≡ k)). inl
      (p.0, p.1, at_longer gs hs p.0 p.1 p.2, p.3))
      (λ (p : (0 ≤ k) × (k < 0 + 0)). let z = p.1 in absurd (omega arith)) f

  has_right : (seen seen' : Ts) (gs hs : List (Share O A E)) (k : ℕ) → HasNumber k (gathering given seen hs)
      → HasNumber k (gathering given seen' (gs ++ hs))
  has_right seen seen' gs hs k f =
      ⊎_elim (λ (p : (j : ℕ) × (h : Share O A E) × (get_elem? hs j ≡ some h) × (h.number ≡ k)). inl
      (length gs + p.0, p.1, at_right gs hs p.0 p.1 p.2, p.3))
      (λ (p : (0 ≤ k) × (k < 0 + 0)). let z = p.1 in absurd (omega arith)) f

  pub joins : (id other : ℕ) (seen seen' : Ts) (gs hs : List (Share O A E))
      → Joins R id (gathering given seen gs) other (gathering given seen' hs)
      (gathered (gathering given seen gs) (gathering given seen' hs)) spent_view
  joins id other seen seen' gs hs s r at apart at' =
      let v : V = gathering given seen gs in
      let w : V = gathering given seen' hs in
      let u : V = gathered v w in
      let vs : List V = set s.views id u in
      let at'' : get_elem? s.views other ≡ some w = sym (set_else s.views id other u apart) ∙ at' in
      let mine = r.each id v at in
      let theirs = r.each other w at'' in
      let p = sum_set numbers_of s.views id v u at in
      let q = sum_set waits s.views id v u at in
      let p' = sum_set numbers_of vs other w spent_view at' in
      let q' = sum_set waits vs other w spent_view at' in
      let so = r.shared_out in
      let qu = r.queue in
      let n = length-append gs hs in
      let owner : ℕ → ℕ = λ k. put (λ x. x) other id (r.owner k) in
      let moves : (k : ℕ) → r.owner k ≡ other → owner k ≡ id = λ k e. put_here (λ x. x) other id (r.owner k) e in
      let stays : (k : ℕ) → r.owner k ≢ other
      → owner k ≡ r.owner k = λ k e. put_else (λ x. x) other id (r.owner k) e in record {
        turns = r.turns;
        drawn = r.drawn;
        owner = owner;
        holder = r.holder;
        words = r.words;
        few = r.few;
        shared_out = omega arith;
        queue = omega arith;
        whole = r.whole;
        numbered = r.numbered;
        slot = (
          r.slot.0,
          r.slot.1,
          lies_still says given passes r.turns vs other w spent_view r.slot.0 at' refl refl
              (lies_still says given passes r.turns s.views id v u r.slot.0 at refl refl r.slot.2),
        );
        each = each_set (Suits given passes r.drawn r.turns owner r.holder) vs other spent_view
            record {
              given_is = λ f. absurd (omega arith);
              seen = (r.turns, refl);
              ticket = λ k f. some_not_none k (sym f);
              turn = λ f. true_not_false false f refl;
              waits_once = omega arith;
              shares = λ j g f. absurd (some-ne-none g (sym f));
              apart = λ j k f g a b _. absurd (some-ne-none f (sym a));
              left = λ k a b. absurd (omega arith);
            }
            (λ j d ne e. ⊎_elim
            (λ (t : (j ≡ id) × (u ≡ d)). subst
            (λ (x : ℕ × V). Suits given passes r.drawn r.turns owner r.holder x.0 x.1)
            (λ i. (sym t.0 i, t.1 i)) record {
              given_is = λ _. refl;
              seen = starts_longer r.turns seen seen' (nat_le (length seen) (length seen')) mine.seen theirs.seen;
              ticket = λ k f. some_not_none k (sym f);
              turn = λ f. true_not_false false f refl;
              waits_once = omega arith;
              shares = λ k g f. ⊎_elim (λ a. let z =
                  mine.shares k g a in (z.0, stays g.number (λ c. apart (sym c ∙ z.1)) ∙ z.1, z.2))
                  (λ (a : (i : ℕ) × (k ≡ length gs + i) × (get_elem? hs i ≡ some g)). let z =
                  theirs.shares a.0 g a.2 in (z.0, moves g.number z.1, z.2)) (at_both gs hs k g f);
              apart = λ k l f g a b same. ⊎_elim
                  (λ x. ⊎_elim (λ y. mine.apart k l f g x y same)
                  (λ (y : (i : ℕ) × (l ≡ length gs + i) × (get_elem? hs i ≡ some g)). absurd
                  (apart (sym (theirs.shares y.0 g y.2).1 ∙ (ap r.owner (sym same) ∙ (mine.shares k f x).1))))
                  (at_both gs hs l g b))
                  (λ (x : (i : ℕ) × (k ≡ length gs + i) × (get_elem? hs i ≡ some f)). ⊎_elim
                  (λ y. absurd (apart (sym (theirs.shares x.0 f x.2).1 ∙ (ap r.owner same ∙ (mine.shares l g y).1))))
                  (λ (y : (i : ℕ) × (l ≡ length gs + i) × (get_elem? hs i ≡ some g)). x.1
                  ∙ (ap (λ i. length gs + i) (theirs.apart x.0 y.0 f g x.2 y.2 same) ∙ sym y.1))
                  (at_both gs hs l g b))
                  (at_both gs hs k f a);
              left = λ k a b. absurd (omega arith);
            })
            (λ (t : (j ≢ id) × (get_elem? s.views j ≡ some d)). let z = r.each j d t.1 in record {
              given_is = z.given_is;
              seen = z.seen;
              ticket = z.ticket;
              turn = z.turn;
              waits_once = z.waits_once;
              shares = λ i g f. let y = z.shares i g f in (y.0, stays g.number (λ c. ne (sym y.1 ∙ c)) ∙ y.1, y.2);
              apart = z.apart;
              left = λ k a b. let y = z.left k a b in (y.0, stays k (λ c. ne (sym y.1 ∙ c)) ∙ y.1, y.2);
            })
            (at_set s.views id j u d e));
        had = λ k small. let o = r.had k small in
            let here : get_elem? (set vs other spent_view) id ≡ some u =
            set_else vs other id spent_view (λ c. apart (sym c))
            ∙ set_here s.views id u (at_lt s.views id v at) in
            dite (ℕ_discrete (r.owner k) other)
            (λ e. (
              u,
              ap (get_elem? (set vs other spent_view)) (moves k e)
                  ∙ here,
              has_right seen' (longer_of seen seen') gs hs k
                  (subst (HasNumber k) (some-injective o.0 w (sym o.1 ∙ (ap (get_elem? s.views) e ∙ at''))) o.2),
            ))
            (λ ne. dite (ℕ_discrete (r.owner k) id)
            (λ e. (
              u,
              ap (get_elem? (set vs other spent_view)) (stays k ne ∙ e)
                  ∙ here,
              has_left seen (longer_of seen seen') gs hs k
                  (subst (HasNumber k) (some-injective o.0 v (sym o.1 ∙ (ap (get_elem? s.views) e ∙ at))) o.2),
            ))
            (λ ne'. (
              o.0,
              ap (get_elem? (set vs other spent_view)) (stays k ne)
                  ∙ (set_else vs other (r.owner k) spent_view ne ∙ (set_else s.views id (r.owner k) u ne' ∙ o.1)),
              o.2,
            )));
      }

  -- what is so once a seat has every number
  pub ends : (s : St) → R s → (id : ℕ) (seen : Ts) (shares : List (Share O A E))
      → get_elem? s.views id ≡ some (gathering given seen shares) → passes ≤ length shares
      → (turns : Ts) × (h : H) × (x : S) × (s.homes ≡ some h ∷ []) × (h.served ≡ Some x) × IsAt says given turns x
      × HaveAll says.relates given passes turns shares
  ends s r id seen shares at enough = ended r.slot.0 r.slot.1 r.slot.2
    where
      alone : (j : ℕ) (d : V) → get_elem? s.views j ≡ some d → 0 < numbers_of d → j ≡ id
      alone j d e some_part = dite (ℕ_discrete j id) (λ y. y)
          (λ ne. absurd (let t = sum_two numbers_of s.views j id d (gathering given seen shares) ne e at in let so =
          r.shared_out in omega arith))

      has_part : (k : ℕ) (d : V) → HasNumber k d → 0 < numbers_of d
      has_part k d f = ⊎_elim (λ (p : (j : ℕ) × (h : Share O A E) × (get_elem? d.shares j ≡ some h)
          × (h.number ≡ k)). let z = at_lt d.shares p.0 p.1 p.2 in omega arith)
          (λ (p : (d.next ≤ k) × (k < d.next + d.left)). let a = p.0 in let b = p.1 in omega arith) f

      known : HaveAll says.relates given passes r.turns shares
      known = record {
        whole = r.whole;
        numbered = r.numbered;
        count = let most = sum_at numbers_of s.views id (gathering given seen shares) at in let so =
            r.shared_out in omega arith;
        share_is = λ j g e. let z = (r.each id (gathering given seen shares) at).shares j g e in (z.0, z.2);
        apart = (r.each id (gathering given seen shares) at).apart;
        all = λ k small. let o = r.had k small in
            let here : r.owner k ≡ id = alone (r.owner k) o.0 o.1 (has_part k o.0 o.2) in
            ⊎_elim (λ (p : (j : ℕ) × (h : Share O A E) × (get_elem? shares j ≡ some h) × (h.number ≡ k)). p)
            (λ (p : (0 ≤ k) × (k < 0 + 0)). let z = p.1 in absurd (omega arith))
            (subst (HasNumber k) (some-injective o.0 (gathering given seen shares) (sym o.1
            ∙ (ap (get_elem? s.views) here ∙ at))) o.2);
      }

      ended : (h : maybe.Option H) → s.homes ≡ h ∷ [] → L r.turns s.views h
          → (turns : Ts) × (h : H) × (x : S) × (s.homes ≡ some h ∷ []) × (h.served ≡ Some x) × IsAt says given turns x
          × HaveAll says.relates given passes turns shares
      ended (some h) homes l = (r.turns, h, l.0.0, homes, l.0.1, l.0.2, known)
      ended none homes l =
          let u = r.each l.0 l.1 l.2 in
          let w = u.waits_once in
          let one : waits l.1 ≡ 1 = ap (λ t. tickets t) (u.turn l.3).0 in
          let same = alone l.0 l.1 l.2 (omega arith) in
          true_not_false l.1.has_turn l.3
          (ap (λ (d : V). d.has_turn)
          (some-injective l.1 (gathering given seen shares) (sym l.2 ∙ (ap (get_elem? s.views) same ∙ at))))

-- Each step of a turn keeps the rule of the table: a ticket is drawn, the state is taken, and given back.
use Rattle.std.proofs.Common.{◌≡◌, ◌≢◌, inl, ⊎_elim, ℕ, ◌+◌, ◌<◌, ◌≤◌, ◌%◌, ◌^◌, Bool, true, false, eqb, List, [], ◌∷◌, ◌++◌, set, get_or, length, refl, ap, sym, ◌∙◌, subst, arith, append_assoc, length-append, Option, Some, None, MatchBool, eqb-true, eq-eqb}
use Rattle.std.proofs.lemmas.List.{append-nil}
use mathlib.Core.Logic.{dite}
use mathlib.Core.Option.{some, none, some-injective, some-ne-none}
use mathlib.Core.Option as maybe
use native.Mathlib.Decide.{ℕ_discrete}
use native.Mathlib.Nat.{mod-add-mod}
use lib.ListN.{get_elem?}
use lib.Seq.{set-get_or}
use Rattle.atomic_table.specs.Table.{State, Me, Step, step, Act, keeps, takes, gives, stepped, carried_after, Valid, Allows}
use Rattle.atomic_table.proofs.Lists.{set_here, set_again, one_turn}
use Rattle.turn_desk.specs.declared.served.Served.{Ghosts as ServedSays}
use Rattle.turn_desk.specs.declared.turn.Turn.{Turn}
use Rattle.turn_desk.specs.declared.turn.Given.{Given}
use Rattle.turn_desk.specs.declared.rule.Slot.{Slot}
use Rattle.turn_desk.specs.declared.rule.LastTurn.{LastTurn}
use Rattle.turn_desk.specs.declared.rule.Share.{Share}
use Rattle.turn_desk.specs.declared.rule.SeatView.{SeatView}
use Rattle.turn_desk.specs.Turns.{turns_by, StartsWith, AreTurns, IsTurn}
use Rattle.turn_desk.specs.Rule.{numbers_of, waits, sum_over, share, one_number, Suits, HasNumber, LiesHome, IsRuled, Drew, HasState, Looked, turn_here, GaveBack, first_share, IsIdle, IsWaiting, HasTurn}
use Rattle.turn_desk.specs.States.{IsAt}
use Rattle.turn_desk.proofs.Grows.{at_end, one_more, by_own, by_other}
use Rattle.turn_desk.proofs.Sums.{sum_set, sum_le}
use Rattle.turn_desk.proofs.Places.{put, put_here, put_else, is_false, true_not_false, at_lt, each_set, at_one, some_same, some_not_none}
use Rattle.turn_desk.proofs.Views.{lies_still, had_still}

module _ {S T O A E : Type 0} (says : ServedSays S T O A E) (given : Given T E) (passes : ℕ) where
  abbrev V : Type 0
  V = SeatView T O A E

  abbrev Ts : Type 0
  Ts = List (Turn O A E)

  abbrev H : Type 0
  H = Slot S O A

  abbrev St : Type 0
  St = State H V

  abbrev R : St → Type 0
  R = IsRuled says given passes

  abbrev L : Ts → List V → maybe.Option H → Type 0
  L = LiesHome says given

  pub draws : (id number : ℕ) (seen own : Ts)
      → Allows R 1 id (one_number given number seen own None false, []) 0 (λ n. (n + 1) % 2 ^ 64)
      (Drew (step 1 0 1 0 none) (one_number given number seen own None false, []))
  draws id number seen own s r len at lt =
      let v : V = one_number given number seen own None false in
      let w : V = one_number given number seen own (Some r.drawn) false in
      let mine = r.each id v at in
      let p = sum_set numbers_of s.views id v w at in
      let q = sum_set waits s.views id v w at in
      let so = r.shared_out in
      let qu = r.queue in
      let found : get_or s.words 0 0 ≡ r.drawn % 2 ^ 64 = ap (λ ws. get_or ws 0 0) r.words in (
        w,
        keeps,
        tt,
        record {
          turns = r.turns;
          drawn = r.drawn + 1;
          owner = r.owner;
          holder = put r.holder r.drawn id;
          words = ap (λ ws. set ws 0 ((get_or ws 0 0 + 1) % 2 ^ 64)) r.words
              ∙ ap (λ n. n ∷ length r.turns % 2 ^ 64 ∷ passes ∷ []) (mod-add-mod r.drawn (2 ^ 64) 1);
          few = r.few;
          shared_out = omega arith;
          queue = omega arith;
          whole = r.whole;
          numbered = r.numbered;
          slot = (r.slot.0, r.slot.1, lies_still says given passes r.turns s.views id v w r.slot.0 at refl refl r.slot.2);
          each = each_set (Suits given passes (r.drawn + 1) r.turns r.owner (put r.holder r.drawn id)) s.views id w
              record {
                given_is = λ _. refl;
                seen = mine.seen;
                ticket = λ n e. let is = some_same r.drawn n e in
                    (omega arith, omega arith, put_here r.holder r.drawn id n (sym is));
                turn = λ e. true_not_false false e refl;
                waits_once = omega arith;
                shares = mine.shares;
                apart = mine.apart;
                left = mine.left;
              }
              (λ j d n e. let u = r.each j d e in record {
                given_is = u.given_is;
                seen = u.seen;
                ticket = λ k t. let z = u.ticket k t in let z0 = z.0 in let z1 =
                    z.1 in (z0, omega arith, put_else r.holder r.drawn id k (λ c. omega arith) ∙ z.2);
                turn = u.turn;
                waits_once = u.waits_once;
                shares = u.shares;
                apart = u.apart;
                left = u.left;
              });
          had = had_still says given passes s.views id v w r.owner at (λ k h. h) r.had;
        },
        (r.drawn, sym found, refl),
      )

  -- where a ticket is out, it is the serving one exactly where the words say so
  serves_it : (s : St) (r : R s) (id number n : ℕ) (seen own : Ts) (b : Bool)
      → get_elem? s.views id ≡ some (one_number given number seen own (Some n) b)
      → length r.turns % 2 ^ 64 ≡ n % 2 ^ 64 → length r.turns ≡ n
  serves_it s r id number n seen own b at e =
      let mine = r.each id (one_number given number seen own (Some n) b) at in
      let t = mine.ticket n refl in
      let le = t.0 in
      let lt = t.1 in
      let all : sum_over waits s.views ≤ sum_over numbers_of s.views =
      sum_le waits numbers_of s.views (λ i v h. (r.each i v h).waits_once) in
      let so = r.shared_out in
      let qu = r.queue in
      let few = r.few in
      one_turn (length r.turns) n (2 ^ 64) le (omega arith) e

  -- what a player's view is made of
  abbrev Made : Type 0
  Made = Given T E × ℕ × ℕ × Ts × Ts

  abbrev ticket_or : Option ℕ → ℕ
  ticket_or None = 0
  ticket_or (Some n) = n

  abbrev Mine : Type 0
  Mine = Me H V

  abbrev Same : Mine → Mine → Type 0
  Same x y = x ≡ y

  abbrev SameMade : Made → Made → Type 0
  SameMade x y = x ≡ y

  same_player : (g g' : Given T E) (k k' n n' : ℕ) (s s' o o' : Ts) (b b' : Bool) (c c' : List (ℕ × H))
      → Same (one_number g k s o (Some n) b, c) (one_number g' k' s' o' (Some n') b', c')
      → SameMade (g, k, n, s, o) (g', k', n', s', o')
  same_player g g' k k' n n' s s' o o' b b' c c' e =
      let eg : g ≡ g' = some_same g g' (ap (λ (z : Mine). z.0.given) e) in
      let eh : share k o ≡ share k' o' = ap (λ (z : Mine). first_share z.0.shares) e in
      let en : n ≡ n' = ap (λ (z : Mine). ticket_or z.0.ticket) e in
      λ i. (eg i, (eh i).number, en i, (e i).0.seen, (eh i).own)

  abbrev Looks : St → ℕ → ℕ → ℕ → Ts → Ts → Type 0
  Looks s id number n seen own = (w : V) × (a : Act H) × Valid s.homes [] a
      × R (stepped s 1 (get_or s.words 1 0) id [] w a)
      × Looked says (step 1 1 0 0 none) (one_number given number seen own (Some n) false, []) (get_or s.words 1 0)
      (w, carried_after [] a)

  takes_it : (s : St) (r : R s) (id number n : ℕ) (seen own : Ts)
      → get_elem? s.views id ≡ some (one_number given number seen own (Some n) false)
      → get_or s.words 1 0 ≡ n % 2 ^ 64 → length r.turns ≡ n
      → (h : maybe.Option H) → s.homes ≡ h ∷ [] → L r.turns s.views h → Looks s id number n seen own
  takes_it s r id number n seen own at e is none homes l =
      let t = (r.each l.0 l.1 l.2).turn l.3 in
      let z = (r.each l.0 l.1 l.2).ticket (length r.turns) t.0 in
      let m = (r.each id (one_number given number seen own (Some n) false) at).ticket n refl in
      let same : l.0 ≡ id = sym z.2 ∙ (ap r.holder is ∙ m.2) in
      true_not_false l.1.has_turn l.3
      (ap (λ (d : V). d.has_turn)
      (some-injective l.1 (one_number given number seen own (Some n) false) (sym l.2
      ∙ (ap (get_elem? s.views) same ∙ at))))
  takes_it s r id number n seen own at e is (some h) homes l =
      let v : V = one_number given number seen own (Some n) false in
      let w : V = one_number given number r.turns own (Some n) true in
      let mine = r.each id v at in
      let p = sum_set numbers_of s.views id v w at in
      let q = sum_set waits s.views id v w at in
      let so = r.shared_out in
      let qu = r.queue in (
        w,
        takes 0 h,
        ap (λ hs. get_elem? hs 0) homes,
        record {
          turns = r.turns;
          drawn = r.drawn;
          owner = r.owner;
          holder = r.holder;
          words = set-get_or s.words 1 0 ∙ r.words;
          few = r.few;
          shared_out = omega arith;
          queue = omega arith;
          whole = r.whole;
          numbered = r.numbered;
          slot = (none, ap (λ hs. set hs 0 none) homes, (id, w, set_here s.views id w (at_lt s.views id v at), refl));
          each = each_set (Suits given passes r.drawn r.turns r.owner r.holder) s.views id w
              record {
                given_is = λ _. refl;
                seen = ([], sym (append-nil r.turns));
                ticket = mine.ticket;
                turn = λ _. (ap (λ (k : ℕ). Some k) (sym is), refl);
                waits_once = omega arith;
                shares = mine.shares;
                apart = mine.apart;
                left = λ k a b. absurd (omega (arith, a, b));
              }
              (λ j d ne f. r.each j d f);
          had = had_still says given passes s.views id v w r.owner at (λ k f. f) r.had;
        },
        (λ g k m seen' own' same.
            let made = same_player given g number k n m seen seen' own own' false false [] [] same in (
              λ found. subst (λ (z : Made). HasState says z.0 z.1 z.3 z.4 z.2 (w, (0, h) ∷ [])) made
                  record {
                    turns = r.turns;
                    slot = h;
                    state = l.0.0;
                    view = refl;
                    served = l.0.1;
                    at = l.0.2;
                    more = mine.seen;
                    whole = r.whole;
                    mine = (mine.shares 0 (share number own) refl).2;
                  },
              λ not. absurd (not (e ∙ ap (λ (z : Made). z.2 % 2 ^ 64) made)),
            )),
      )

  pub looks : (id number n : ℕ) (seen own : Ts)
      → Allows R 1 id (one_number given number seen own (Some n) false, []) 1 (λ m. m)
      (Looked says (step 1 1 0 0 none) (one_number given number seen own (Some n) false, []))
  looks id number n seen own s r len at lt =
      let v : V = one_number given number seen own (Some n) false in
      let found : get_or s.words 1 0 ≡ length r.turns % 2 ^ 64 = ap (λ ws. get_or ws 1 0) r.words in
      dite (ℕ_discrete (get_or s.words 1 0) (n % 2 ^ 64))
      (λ e. takes_it s r id number n seen own at e
      (serves_it s r id number n seen own false at (sym found ∙ e)) r.slot.0 r.slot.1 r.slot.2)
      (λ ne. (
        v,
        keeps,
        tt,
        subst (λ (z : List ℕ × List V). R record { words = z.0; homes = s.homes; views = z.1 })
            (λ i. (sym (set-get_or s.words 1 0) i, sym (set_again s.views id v at) i)) r,
        (λ g k m seen' own' same.
            let made = same_player given g number k n m seen seen' own own' false false [] [] same in
            (λ e. absurd (ne (e ∙ ap (λ (z : Made). z.2 % 2 ^ 64) (sym made))), λ not. refl)),
      ))

  has_more : (number : ℕ) (seen seen' own own' : Ts) (t t' : Option ℕ) (b b' : Bool) (k : ℕ)
      → HasNumber k (one_number given number seen own t b) → HasNumber k (one_number given number seen' own' t' b')
  has_more number seen seen' own own' t t' b b' k f = ⊎_elim
      (λ (p : (j : ℕ) × (h : Share O A E) × (get_elem? (share number own ∷ []) j ≡ some h) × (h.number ≡ k)). inl (
        0,
        share number own',
        refl,
        ap (λ (z : Share O A E). z.number) (at_one (share number own) p.1 p.0 p.2).1
            ∙ p.3,
      ))
      (λ (p : (0 ≤ k) × (k < 0 + 0)). let z = p.1 in absurd (omega arith)) f

  abbrev held_or : H → List (ℕ × H) → H
  held_or h [] = h
  held_or h (x ∷ xs) = x.1

  pub finishes : (id number n : ℕ) (seen own : Ts) (h : H) (y : S) (last : LastTurn O A) → h.served ≡ Some y
      → h.last ≡ Some last
      → IsAt says given (seen ++ turn_here says given number seen last.op.value last.answer.value y ∷ []) y
      → IsTurn says.relates given seen (turn_here says given number seen last.op.value last.answer.value y)
      → Allows R 1 id (one_number given number seen own (Some n) true, (0, h) ∷ []) 1 (λ m. (m + 1) % 2 ^ 64)
      (GaveBack says (step 1 1 1 0 none) (one_number given number seen own (Some n) true, (0, h) ∷ []))
  finishes id number n seen own h y last sy st isat one s r len at lt =
      let t : Turn O A E = turn_here says given number seen last.op.value last.answer.value y in
      let v : V = one_number given number seen own (Some n) true in
      let w : V = one_number given number (seen ++ t ∷ []) (own ++ t ∷ []) None false in
      let mine = r.each id v at in
      let turn = mine.turn refl in
      let all : seen ≡ r.turns = turn.1 in
      let share_is = mine.shares 0 (share number own) refl in
      let p = sum_set numbers_of s.views id v w at in
      let q = sum_set waits s.views id v w at in
      let so = r.shared_out in
      let qu = r.queue in
      let longer_of : length (seen ++ t ∷ []) ≡ length r.turns + 1 = length-append seen (t ∷ [])
      ∙ ap (λ (z : Ts). length z + 1) all in
      let holds : r.holder (length r.turns) ≡ id = (mine.ticket (length r.turns) turn.0).2 in
      let goes : (d : Ts) → StartsWith r.turns d → StartsWith (seen ++ t ∷ []) d =
      λ d f. (f.0 ++ t ∷ [], ap (λ (z : Ts). z ++ t ∷ []) (all ∙ f.1) ∙ append_assoc d f.0 (t ∷ [])) in
      let others : (k : ℕ) → k ≢ number
      → turns_by k (seen ++ t ∷ []) ≡ turns_by k r.turns = λ k ne. by_other k seen t (λ e. ne (sym e))
      ∙ ap (turns_by k) all in
      let idle : (j : ℕ) (d : V) → j ≢ id → get_elem? s.views j ≡ some d → d.has_turn ≡ false =
      λ j d ne f. is_false d.has_turn
      (λ e. ne (sym ((r.each j d f).ticket (length r.turns) ((r.each j d f).turn e).0).2 ∙ holds)) in (
        w,
        gives,
        tt,
        record {
          turns = seen ++ t ∷ [];
          drawn = r.drawn;
          owner = r.owner;
          holder = r.holder;
          words = ap (λ ws. set ws 1 ((get_or ws 1 0 + 1) % 2 ^ 64)) r.words
              ∙ ap (λ k. r.drawn % 2 ^ 64 ∷ k ∷ passes ∷ []) (mod-add-mod (length r.turns) (2 ^ 64) 1
              ∙ ap (λ k. k % 2 ^ 64) (sym longer_of));
          few = r.few;
          shared_out = omega arith;
          queue = omega arith;
          whole = one_more says.relates given seen t (subst (AreTurns says.relates given) (sym all) r.whole) one;
          numbered = λ earlier u later e.
              ⊎_elim (λ (z : (seen ≡ earlier) × (t ≡ u)). subst (λ (x : Turn O A E). x.pass < passes) z.1 share_is.0)
              (λ (z : (l : Ts) × (seen ≡ earlier ++ u ∷ l)). r.numbered earlier u z.0 (sym all ∙ z.1))
              (at_end seen t u earlier later e);
          slot = (
            some h,
            ap (λ hs. set hs 0 (some h)) r.slot.1,
            ((y, sy, isat), each_set (λ _ d. d.has_turn ≡ false) s.views id w refl idle),
          );
          each = each_set (Suits given passes r.drawn (seen ++ t ∷ []) r.owner r.holder) s.views id w
              record {
                given_is = λ _. refl;
                seen = ([], sym (append-nil (seen ++ t ∷ [])));
                ticket = λ k e. some_not_none k (sym e);
                turn = λ e. true_not_false false e refl;
                waits_once = omega arith;
                shares = λ j g e. let o = at_one (share number (own ++ t ∷ [])) g j e in
                    subst (λ (z : Share O A E). (z.number < passes) × (r.owner z.number ≡ id)
                    × (turns_by z.number (seen ++ t ∷ []) ≡ z.own)) o.1 (
                      share_is.0,
                      share_is.1,
                      by_own number seen t refl
                          ∙ ap (λ (z : Ts). z ++ t ∷ []) (ap (turns_by number) all ∙ share_is.2),
                    );
                apart = λ j k f g e e' _. (at_one (share number (own ++ t ∷ [])) f j e).0
                    ∙ sym (at_one (share number (own ++ t ∷ [])) g k e').0;
                left = λ k a b. absurd (omega arith);
              }
              (λ j d ne f. let u = r.each j d f in record {
                given_is = u.given_is;
                seen = goes d.seen u.seen;
                ticket = λ k e. let z = u.ticket k e in let z0 = z.0 in
                    let far : length r.turns ≢ k = λ same. ne (sym z.2 ∙ (ap r.holder (sym same) ∙ holds)) in
                    (omega (arith, far), z.1, z.2);
                turn = λ e. true_not_false d.has_turn e (idle j d ne f);
                waits_once = u.waits_once;
                shares = λ i g e. let z = u.shares i g e in
                    (z.0, z.1, others g.number (λ same. ne (sym z.1 ∙ (ap r.owner same ∙ share_is.1))) ∙ z.2);
                apart = u.apart;
                left = λ k a b. let z = u.left k a b in
                    (z.0, z.1, others k (λ same. ne (sym z.1 ∙ (ap r.owner same ∙ share_is.1))) ∙ z.2);
              });
          had = had_still says given passes s.views id v w r.owner at
              (λ k f. has_more number seen (seen ++ t ∷ []) own (own ++ t ∷ []) (Some n) None true false k f) r.had;
        },
        (λ g k m seen' own' h' y' last' same sy' st'.
            let made = same_player given g number k n m seen seen' own own' true true ((0, h) ∷ [])
            ((0, h') ∷ []) same in
            let hs : h ≡ h' = ap (λ (z : Mine). held_or h z.1) same in
            let ys : y ≡ y' = some_same y y' (sym sy ∙ (ap (λ (z : H). z.served) hs ∙ sy')) in
            let ts : last ≡ last' = some_same last last' (sym st ∙ (ap (λ (z : H). z.last) hs ∙ st')) in
            λ i. let u : Turn O A E = turn_here says (made i).0 (made i).1 (made i).3 (ts i).op.value
            (ts i).answer.value (ys i) in
            (one_number (made i).0 (made i).1 ((made i).3 ++ u ∷ []) ((made i).4 ++ u ∷ []) None false, [])),
      )

  -- the same, as a call of the table asks it
  pub draws_idle : (slots id : ℕ) (m : Mine) → slots ≡ 1 → IsIdle given m
      → Allows R slots id m 0 (λ n. (n + 1) % 2 ^ 64) (Drew (step slots 0 1 0 none) m)
  draws_idle slots id m one idle =
      subst (λ (z : ℕ × Mine). Allows R z.0 id z.1 0 (λ n. (n + 1) % 2 ^ 64) (Drew (step z.0 0 1 0 none) z.1))
      (λ i. (sym one i, sym idle.3 i)) (draws id idle.0 idle.1 idle.2)

  pub looks_waiting : (slots id ticket : ℕ) (m : Mine) → slots ≡ 1 → IsWaiting given ticket m
      → Allows R slots id m 1 (λ n. n) (Looked says (step slots 1 0 0 none) m)
  looks_waiting slots id ticket m one wait =
      subst (λ (z : ℕ × Mine). Allows R z.0 id z.1 1 (λ n. n) (Looked says (step z.0 1 0 0 none) z.1))
      (λ i. (sym one i, sym wait.5 i)) (looks id wait.0 wait.3 wait.1 wait.2)

  pub look_tells : (st : Step H) (found ticket : ℕ) (m m' : Mine) (b : Bool) → eqb found ticket ≡ b
      → IsWaiting given ticket m → Looked says st m found m'
      → MatchBool b (HasTurn says given ticket m m') (m' ≡ m)
  look_tells st found ticket m m' true is wait tells =
      λ number n seen own low same. (tells given number n seen own same).0 (eqb-true found ticket is ∙ sym low)
  look_tells st found ticket m m' false is wait tells = (tells given wait.0 wait.3 wait.1 wait.2 wait.5).1
      (λ e. true_not_false (eqb found ticket) (eq-eqb found ticket (e ∙ wait.4)) is)

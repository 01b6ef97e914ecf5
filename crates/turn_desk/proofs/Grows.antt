-- What a list of turns keeps when one more is taken.
use Rattle.std.proofs.Common.{◌≡◌, Bool, true, false, ◌⊎◌, inl, inr, ⊎_elim, ℕ, ◌+◌, ◌%◌, ◌^◌, List, [], ◌∷◌, ◌++◌, length, drop, eqb, cond, sym, refl, ap, ◌∙◌, subst, arith, append_assoc, length-append, eq-eqb, ne_eqb}
use Rattle.std.proofs.lemmas.List.{append-nil}
use native.Mathlib.Nat.{mod-add-mod}
use Rattle.std.proofs.Math.Seq.{drop-append_seam}
use Rattle.turn_desk.specs.declared.served.Served.{Ghosts as ServedSays}
use Rattle.turn_desk.specs.declared.turn.Stamp.{Stamp}
use Rattle.turn_desk.specs.declared.turn.Turn.{Turn}
use Rattle.turn_desk.specs.declared.turn.Given.{Given}
use Rattle.turn_desk.specs.declared.turn.Sight.{Sight}
use Rattle.turn_desk.specs.Turns.{IsLater, StartsWith, ServesTurn, turn_of, events_of, last_mark, turns_by, IsTurn, AreTurns}
use Rattle.turn_desk.specs.Solo.{first_sight, with_turn}
use Rattle.turn_desk.specs.States.{given_of, IsAt, IsSolo}
use Rattle.turn_desk.specs.Sights.{Knows, Took}

module _ {A : Type 0} where
  abbrev first_or : A → List A → A
  first_or d [] = d
  first_or d (x ∷ xs) = x

  abbrev rest_of : List A → List A
  rest_of [] = []
  rest_of (x ∷ xs) = xs

  pub same_head : (x y : A) (xs ys : List A) → x ∷ xs ≡ y ∷ ys → x ≡ y
  same_head x y xs ys e = ap (first_or x) e

  pub same_tail : (x y : A) (xs ys : List A) → x ∷ xs ≡ y ∷ ys → xs ≡ ys
  same_tail x y xs ys e = ap rest_of e

  pub not_nil : {P : Type 0} (t : A) (earlier later : List A) → [] ≡ earlier ++ t ∷ later → P
  not_nil t earlier later e = let n : 0 ≡ length (earlier ++ t ∷ later) = ap length e in let l =
      length-append earlier (t ∷ later) in absurd (omega arith)

  -- where a turn stands in a list that is one longer
  pub at_end : (turns : List A) (x t : A) (earlier later : List A) → turns ++ x ∷ [] ≡ earlier ++ t ∷ later
      → ((turns ≡ earlier) × (x ≡ t)) ⊎ ((l : List A) × (turns ≡ earlier ++ t ∷ l))
  at_end [] x t [] later e = inl (refl, same_head x t [] later e)
  at_end [] x t (y ∷ ys) later e = not_nil t ys later (same_tail x y [] (ys ++ t ∷ later) e)
  at_end (y ∷ ys) x t [] later e = inr (ys, λ i. same_head y t (ys ++ x ∷ []) later e i ∷ ys)
  at_end (y ∷ ys) x t (z ∷ zs) later e =
      let h : y ≡ z = same_head y z (ys ++ x ∷ []) (zs ++ t ∷ later) e in
      ⊎_elim (λ (p : (ys ≡ zs) × (x ≡ t)). inl ((λ i. h i ∷ p.0 i), p.1))
      (λ (p : (l : List A) × (ys ≡ zs ++ t ∷ l)). inr (p.0, λ i. h i ∷ p.1 i))
      (at_end ys x t zs later (same_tail y z (ys ++ x ∷ []) (zs ++ t ∷ later) e))

-- what was appended is the rest behind the front
pub appended : {A : Type 0} (whole front : List A) → StartsWith whole front → whole ≡ front ++ drop (length front) whole
appended whole front more = more.1
    ∙ ap (λ es. front ++ es) (sym (ap (drop (length front)) more.1 ∙ drop-append_seam front more.0))

module _ {O A E : Type 0} where
  pub events_more : (ts : List (Turn O A E)) (t : Turn O A E) → events_of (ts ++ t ∷ []) ≡ events_of ts ++ t.events
  events_more [] t = append-nil t.events
  events_more (u ∷ ts) t = ap (λ es. u.events ++ es) (events_more ts t)
      ∙ sym (append_assoc u.events (events_of ts) t.events)

  pub last_more : (m : Stamp) (ts : List (Turn O A E)) (t : Turn O A E) → last_mark m (ts ++ t ∷ []) ≡ t.after
  last_more m [] t = refl
  last_more m (u ∷ ts) t = last_more u.after ts t

  by_step : (u : Turn O A E) (l m n : List (Turn O A E)) (b : Bool) → l ≡ m ++ n
      → cond b (u ∷ l) l ≡ cond b (u ∷ m) m ++ n
  by_step u l m n true e = ap (λ z. u ∷ z) e
  by_step u l m n false e = e

  pub by_more : (k : ℕ) (ts : List (Turn O A E)) (t : Turn O A E)
      → turns_by k (ts ++ t ∷ []) ≡ turns_by k ts ++ turns_by k (t ∷ [])
  by_more k [] t = refl
  by_more k (u ∷ ts) t = by_step u (turns_by k (ts ++ t ∷ [])) (turns_by k ts) (turns_by k (t ∷ [])) (eqb u.pass k)
      (by_more k ts t)

  pub by_own : (k : ℕ) (ts : List (Turn O A E)) (t : Turn O A E) → t.pass ≡ k
      → turns_by k (ts ++ t ∷ []) ≡ turns_by k ts ++ t ∷ []
  by_own k ts t e = by_more k ts t ∙ ap (λ b. turns_by k ts ++ cond b (t ∷ []) []) (eq-eqb t.pass k e)

  pub by_other : (k : ℕ) (ts : List (Turn O A E)) (t : Turn O A E) → ¬ (t.pass ≡ k)
      → turns_by k (ts ++ t ∷ []) ≡ turns_by k ts
  by_other k ts t n = by_more k ts t
      ∙ (ap (λ b. turns_by k ts ++ cond b (t ∷ []) []) (ne_eqb t.pass k n) ∙ append-nil (turns_by k ts))

module _ {T O A E : Type 0} (relates : T → List (Turn O A E) → Turn O A E → Type 0) where
  pub none_yet : (given : Given T E) → AreTurns relates given []
  none_yet given earlier t later e = not_nil t earlier later e

  pub one_more : (given : Given T E) (turns : List (Turn O A E)) (x : Turn O A E) → AreTurns relates given turns
      → IsTurn relates given turns x → AreTurns relates given (turns ++ x ∷ [])
  one_more given turns x all one earlier t later e =
      ⊎_elim (λ (p : (turns ≡ earlier) × (x ≡ t)). subst
      (λ (z : List (Turn O A E) × Turn O A E). IsTurn relates given z.0 z.1) (λ i. (p.0 i, p.1 i)) one)
      (λ (p : (l : List (Turn O A E)) × (turns ≡ earlier ++ t ∷ l)). all earlier t p.0 p.1)
      (at_end turns x t earlier later e)

  pub fewer : (given : Given T E) (turns seen rest : List (Turn O A E)) → turns ≡ seen ++ rest
      → AreTurns relates given turns → AreTurns relates given seen
  fewer given turns seen rest is all earlier t later e =
      all earlier t (later ++ rest) (is ∙ (ap (λ l. l ++ rest) e ∙ append_assoc earlier (t ∷ later) rest))

-- one turn more of a state that its owner alone has
module _ {S T O A E : Type 0} (says : ServedSays S T O A E) where
  -- the turn that the owner takes now, between two states
  abbrev pub own_turn : Sight T O A E → O → A → S → S → Turn O A E
  own_turn s op answer x y = turn_of s.number s.seen op answer (says.entries x) (says.mark x) (says.entries y)
      (says.mark y)

  -- what a served operation did to the state
  pub record Did (x : S) (op : O) (answer : A) (y : S) : Type 0 where
    pub start_is : says.start y ≡ says.start x
    pub entries_are : StartsWith (says.entries y) (says.entries x)
    pub later : IsLater (says.mark x) (says.mark y)
    pub turn : ServesTurn says.relates says.stands says.start says.entries says.mark x op answer y

  pub solo_first : (x : S) → says.stands x [] → IsSolo says (first_sight (given_of says x)) x
  solo_first x stands = record {
    at = record {
      stands_for = stands;
      start_is = refl;
      entries_are = sym (append-nil (says.entries x));
      mark_is = refl;
    };
    whole = none_yet says.relates (given_of says x);
    owned = record { number = refl; alone = λ earlier t later e. not_nil t earlier later e; mine = refl };
  }

  -- the state after one turn more, and that the turn may come there
  pub goes_on : (given : Given T E) (number : ℕ) (turns : List (Turn O A E)) (x y : S) (op : O) (answer : A)
      → IsAt says given turns x → Did x op answer y
      → IsAt says given (turns ++ turn_of number turns op answer (says.entries x) (says.mark x) (says.entries y)
      (says.mark y) ∷ []) y
      × IsTurn says.relates given turns
      (turn_of number turns op answer (says.entries x) (says.mark x) (says.entries y) (says.mark y))
  goes_on given number turns x y op answer at did =
      let t : Turn O A E = turn_of number turns op answer (says.entries x) (says.mark x) (says.entries y)
      (says.mark y) in
      let both = did.turn turns number at.stands_for in
      let grown : says.entries y ≡ says.entries x ++ t.events =
      appended (says.entries y) (says.entries x) did.entries_are in (
        record {
          stands_for = both.1;
          start_is = did.start_is ∙ at.start_is;
          entries_are = grown ∙ (ap (λ es. es ++ t.events) at.entries_are
              ∙ (append_assoc given.entries (events_of turns) t.events
              ∙ ap (λ es. given.entries ++ es) (sym (events_more turns t))));
          mark_is = sym (last_more given.mark turns t);
        },
        record {
          rank = refl;
          place = ap length at.entries_are;
          mark = at.mark_is;
          later = did.later;
          tied = subst (λ (z : T). says.relates z turns t) at.start_is both.0;
        },
      )

  -- the turn of an owner, and what the owner knows then
  pub solo_turn : (x y x' y' : S) (op op' : O) (answer answer' : A) (s s' : Sight T O A E) → x' ≡ x → y' ≡ y
      → op' ≡ op → answer' ≡ answer
      → s' ≡ with_turn s (own_turn s op' answer' x' y') → IsSolo says s x → Did x op answer y → IsSolo says s' y
      × Took says.relates s op answer s'
  solo_turn x y x' y' op op' answer answer' s s' ex ey eo ea is solo did =
      let t : Turn O A E = own_turn s op answer x y in
      let is' : s' ≡ with_turn s t = is ∙ (λ i. with_turn s (own_turn s (eo i) (ea i) (ex i) (ey i))) in
      let one = goes_on s.given s.number s.seen x y op answer solo.at did in
      let knows : Knows says.relates (with_turn s t) = record {
        whole = one_more says.relates s.given s.seen t solo.whole one.1;
        mine = by_own s.number s.seen t refl ∙ ap (λ l. l ++ t ∷ []) solo.owned.mine;
      } in (
        subst (λ (z : Sight T O A E). IsSolo says z y) (sym is') record {
          at = one.0;
          whole = knows.whole;
          owned = record {
            number = solo.owned.number;
            mine = knows.mine;
            alone = λ earlier u later e. ⊎_elim
                (λ (p : (s.seen ≡ earlier) × (t ≡ u)). ap (λ (z : Turn O A E). z.pass) (sym p.1) ∙ solo.owned.number)
                (λ (p : (l : List (Turn O A E)) × (s.seen ≡ earlier ++ u ∷ l)). solo.owned.alone earlier u p.0 p.1)
                (at_end s.seen t u earlier later e);
          };
        },
        subst (λ (z : Sight T O A E). Took says.relates s op answer z) (sym is') record {
          turn = t;
          between = [];
          given = refl;
          number = refl;
          seen = ap (λ l. l ++ t ∷ []) (sym (append-nil s.seen));
          own = refl;
          pass = refl;
          op_is = refl;
          answer_is = refl;
          knows = knows;
        },
      )

-- the count of the turns goes on
pub one_longer : {T O A E : Type 0} (s s' : Sight T O A E) (t : Turn O A E) (taken taken' : ℕ) → s' ≡ with_turn s t
    → taken ≡ length s.seen % 2 ^ 64 → taken' ≡ (taken + 1) % 2 ^ 64
    → taken' ≡ length s'.seen % 2 ^ 64
one_longer s s' t taken taken' is was now =
    let longer : length s'.seen ≡ length s.seen + 1 = ap (λ z. length z.seen) is ∙ length-append s.seen (t ∷ []) in
    now ∙ (ap (λ n. (n + 1) % 2 ^ 64) was
    ∙ (mod-add-mod (length s.seen) (2 ^ 64) 1 ∙ ap (λ n. n % 2 ^ 64) (sym longer)))

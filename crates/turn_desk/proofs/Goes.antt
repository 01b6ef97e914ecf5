-- Turns that were taken one after another.
use Rattle.std.proofs.Common.{◌≡◌, ◌≢◌, ◌⊎◌, inl, inr, ⊎_elim, List, [], ◌∷◌, ◌++◌, refl, ap, sym, ◌∙◌, subst, append_assoc}
use Rattle.std.proofs.lemmas.List.{append-nil}
use Rattle.turn_desk.specs.declared.turn.Turn.{Turn}
use Rattle.turn_desk.specs.Sights.{Knows}
use Rattle.turn_desk.specs.Laws.{NoTurnsChangeNothing, OneTurnGoes, TurnsAddUp}
use Rattle.turn_desk.proofs.Grows.{not_nil}

module _ {A : Type 0} where
  pub cons_not_nil : {P : Type 0} (x : A) (xs : List A) → x ∷ xs ≡ [] → P
  cons_not_nil x xs e = not_nil x [] xs (sym e)

  -- a list is empty or not
  pub some_or_none : (xs : List A) → (xs ≡ []) ⊎ (xs ≢ [])
  some_or_none [] = inl refl
  some_or_none (x ∷ xs) = inr (λ e. cons_not_nil x xs e)

  left_nil : (xs ys : List A) → xs ++ ys ≡ [] → xs ≡ []
  left_nil [] ys e = refl
  left_nil (x ∷ xs) ys e = cons_not_nil x (xs ++ ys) e

  right_nil : (xs ys : List A) → xs ++ ys ≡ [] → ys ≡ []
  right_nil [] ys e = e
  right_nil (x ∷ xs) ys e = cons_not_nil x (xs ++ ys) e

module _ {T O A E : Type 0} (relates : T → List (Turn O A E) → Turn O A E → Type 0) where
  pub went_none : NoTurnsChangeNothing relates
  went_none s = record {
    given = refl;
    number = refl;
    seen = ([], sym (append-nil s.seen));
    own = sym (append-nil s.own);
    still = λ _. refl;
    knows = λ n. absurd (n refl);
  }

  pub went_one : OneTurnGoes relates
  went_one s s' op answer k = record {
    given = k.given;
    number = k.number;
    seen = (k.between ++ k.turn ∷ [], k.seen ∙ append_assoc s.seen k.between (k.turn ∷ []));
    own = k.own;
    still = λ e. cons_not_nil k.turn [] e;
    knows = λ _. k.knows;
  }

  pub went_more : TurnsAddUp relates
  went_more s s' s'' xs ys p q = record {
    given = q.given ∙ p.given;
    number = q.number ∙ p.number;
    seen = (
      p.seen.0 ++ q.seen.0,
      q.seen.1
          ∙ (ap (λ l. l ++ q.seen.0) p.seen.1 ∙ append_assoc s.seen p.seen.0 q.seen.0),
    );
    own = q.own ∙ (ap (λ l. l ++ ys) p.own ∙ append_assoc s.own xs ys);
    still = λ e. q.still (right_nil xs ys e) ∙ p.still (left_nil xs ys e);
    knows = λ some. ⊎_elim
        (λ (none : ys ≡ []). subst (Knows relates) (sym (q.still none))
        (p.knows (λ e. some (ap (λ l. l ++ ys) e ∙ none))))
        (λ (more : ys ≢ []). q.knows more) (some_or_none ys);
  }

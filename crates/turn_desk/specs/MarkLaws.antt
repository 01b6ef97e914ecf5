-- A law: what lasts from each mark of a list of turns lasts from each mark of the list with one turn more.
use Rattle.std.proofs.Common.{◌≡◌, ◌⊎◌, inl, inr, ⊎_elim, ℕ, ◌≤◌, List, [], ◌∷◌, ◌++◌, length, refl, ap, sym, ◌∙◌, subst, arith}
use mathlib.Core.Logic.{dite}
use native.Mathlib.Decide.{dec_le}
use Rattle.turn_desk.specs.declared.turn.Stamp.{Stamp}
use Rattle.turn_desk.specs.declared.turn.Turn.{Turn}
use Rattle.turn_desk.specs.Turns.{last_mark}
use Rattle.turn_desk.specs.Marks.{Telling, TellsOn, AreGood, Lasts, FromEachMark}

module _ {X : Type 0} where
  abbrev head_or : X → List X → X
  head_or x [] = x
  head_or x (y ∷ ys) = y

  abbrev tail_of : List X → List X
  tail_of [] = []
  tail_of (y ∷ ys) = ys

  no_front : (xs ys : List X) → [] ≡ xs ++ ys → xs ≡ []
  no_front [] ys e = refl
  no_front (x ∷ xs) ys e = absurd (let n = ap length e in omega (arith, n))

  -- a cut of a list that is one longer is at its end, or one of the shorter list
  cut_of : (xs front back : List X) (x : X) → xs ++ x ∷ [] ≡ front ++ back → (front ≡ xs ++ x ∷ [])
      ⊎ ((rest : List X) × (xs ≡ front ++ rest))
  cut_of xs [] back x e = inr (xs, refl)
  cut_of [] (y ∷ front) back x e = inl (λ i. head_or x (sym e i) ∷ no_front front back (ap tail_of e) i)
  cut_of (z ∷ xs) (y ∷ front) back x e =
      let same : z ≡ y = ap (head_or z) e in
      ⊎_elim (λ (p : front ≡ xs ++ x ∷ []). inl (λ i. sym same i ∷ p i))
      (λ (p : (rest : List X) × (xs ≡ front ++ rest)). inr (p.0, λ i. same i ∷ p.1 i))
      (cut_of xs front back x (ap tail_of e))

last_mark_is : {O A E : Type 0} (mark : Stamp) (turns : List (Turn O A E)) (t : Turn O A E)
    → last_mark mark (turns ++ t ∷ []) ≡ t.after
last_mark_is mark [] t = refl
last_mark_is mark (u ∷ turns) t = last_mark_is u.after turns t

module _ {I : Type 0} (good : I → Type 0) where
  -- what was good at an earlier moment, as it is told now, was good as it was told then
  was_good : (old new : Telling I) (moment : ℕ) → TellsOn old new → moment ≤ old.now → AreGood good new moment
      → AreGood good old moment
  was_good old new moment on early are image at = let now =
      are image (on.left moment image early at) in (now.0, on.agreed_before moment image early now.1)

  -- what lasted up to a turn's start and lasts from there on lasts
  pub lasts_on : (old new : Telling I) (moment : ℕ) → TellsOn old new → moment ≤ old.now → Lasts good old moment
      → Lasts good new old.now → Lasts good new moment
  lasts_on old new moment on early before turn are =
      let was = before (was_good old new moment on early are) in
      let later = on.later in
      let here : AreGood good new old.now = λ image at.
      let then = on.left_before old.now image (omega arith) at in (
        was.good_since old.now early (omega arith) image then,
        on.agreed old.now image (omega arith) (was.agree_now image then),
      ) in
      let next = turn here in record {
        good_since = λ at from to image left. dite (dec_le at old.now)
            (λ before_now. was.good_since at from before_now image (on.left_before at image before_now left))
            (λ behind. next.good_since at (omega (arith, behind)) to image left);
        agree_now = next.agree_now;
      }

  module _ {O A E : Type 0} where
    -- A turn that keeps good what was good at its own start keeps it good from each earlier mark.
    pub good_images_last : (old new : Telling I) (mark : Stamp) (turns : List (Turn O A E)) (t : Turn O A E)
        → t.after.time ≡ new.now → TellsOn old new
        → FromEachMark good old mark turns → Lasts good new old.now → FromEachMark good new mark (turns ++ t ∷ [])
    good_images_last old new mark turns t at on before turn front back cut =
        let later = on.later in
        ⊎_elim
        (λ (p : front ≡ turns ++ t ∷ []).
        let here : (last_mark mark front).time ≡ new.now = ap (λ l. (last_mark mark l).time) p
        ∙ (ap (λ (z : Stamp). z.time) (last_mark_is mark turns t) ∙ at) in (
          omega (arith, here),
          subst (Lasts good new) (sym here) (λ are. record {
            good_since = λ k from to image left. let same : k ≡ new.now =
                omega (arith, from, to) in (are image (subst (λ n. new.may_leave n image) same left)).0;
            agree_now = λ image left. (are image left).1;
          }),
        ))
        (λ (p : (rest : List (Turn O A E)) × (turns ≡ front ++ rest)).
        let o = before front p.0 p.1 in
        let early = o.0 in
        (omega arith, lasts_on old new (last_mark mark front).time on early o.1 turn))
        (cut_of turns front back t cut)

-- The turns of a pass among others.
use Rattle.std.proofs.Common.{◌≡◌, ⊎_elim, ℕ, zero, suc, Bool, true, false, List, [], ◌∷◌, ◌++◌, Option, None, Some, cond, eq-eqb, eqb, refl, sym, ap, ◌∙◌, subst, arith}
use Rattle.std.specs.Prelude.{Contains}
use Rattle.std.proofs.lemmas.Bool.{eqb-true}
use Rattle.served_runs.proofs.TurnLists.{behind, first_or_later, here, none_there}
use Rattle.engine_turns.specs.Told.{RunTurn}
use Rattle.machine_core.specs.declared.calls.Call.{Call}
use Rattle.run_lifecycle.specs.Begins.{IsOwnCall}
use Rattle.turn_desk.specs.Turns.{turns_by}
use Rattle.shared_run.specs.Together.{own_before}

-- a turn is among those of its pass
pub by_pass : (k : ℕ) (ts : List RunTurn) (t : RunTurn) → Contains ts t → t.pass ≡ k → Contains (turns_by k ts) t
by_pass k [] t there is = none_there t there
by_pass k (u ∷ ts) t there is = ⊎_elim
    (λ (same : u ≡ t).
    let mine : eqb u.pass k ≡ true = eq-eqb u.pass k (ap (λ (v : RunTurn). v.pass) same ∙ is) in
    subst (λ (b : Bool). Contains (cond b (u ∷ turns_by k ts) (turns_by k ts)) t) (sym mine)
    (subst (λ (v : RunTurn). Contains (u ∷ turns_by k ts) v) same (here u (turns_by k ts))))
    (λ (later : Contains ts t). by (eqb u.pass k) (by_pass k ts t later is)) (first_or_later u ts t there)
  where
    by : (b : Bool) → Contains (turns_by k ts) t → Contains (cond b (u ∷ turns_by k ts) (turns_by k ts)) t
    by true rest = behind u (turns_by k ts) t rest
    by false rest = rest

-- .. and they are among all
pub of_pass : (k : ℕ) (ts : List RunTurn) (t : RunTurn) → Contains (turns_by k ts) t → Contains ts t
of_pass k [] t there = none_there t there
of_pass k (u ∷ ts) t there = by (eqb u.pass k) there (of_pass k ts t)
  where
    by : (b : Bool) → Contains (cond b (u ∷ turns_by k ts) (turns_by k ts)) t
        → (Contains (turns_by k ts) t → Contains ts t) → Contains (u ∷ ts) t
    by true there rest = ⊎_elim (λ (same : u ≡ t). subst (λ (v : RunTurn). Contains (u ∷ ts) v) same (here u ts))
        (λ (later : Contains (turns_by k ts) t). behind u ts t (rest later))
        (first_or_later u (turns_by k ts) t there)
    by false there rest = behind u ts t (rest there)

-- .. each of it
pub pass_of : (k : ℕ) (ts : List RunTurn) (t : RunTurn) → Contains (turns_by k ts) t → t.pass ≡ k
pass_of k [] t there = none_there t there
pass_of k (u ∷ ts) t there = by (eqb u.pass k) refl there (pass_of k ts t)
  where
    by : (b : Bool) → eqb u.pass k ≡ b → Contains (cond b (u ∷ turns_by k ts) (turns_by k ts)) t
        → (Contains (turns_by k ts) t → t.pass ≡ k) → t.pass ≡ k
    by true is within rest = ⊎_elim (λ (same : u ≡ t). sym (ap (λ (v : RunTurn). v.pass) same) ∙ eqb-true u.pass k is)
        rest (first_or_later u (turns_by k ts) t within)
    by false is within rest = rest within

-- ---- behind the line's own call

head_pass : (t : RunTurn) (ts rest : List RunTurn) → turns_by 0 (t ∷ ts) ≡ t ∷ rest → t.pass ≡ 0
head_pass t ts rest is =
    pass_of 0 (t ∷ ts) t (subst (λ (l : List RunTurn). Contains l t) (sym is) (here t rest))

behind_none : (ts rest : List RunTurn) (place : ℕ) → turns_by place ts ≡ own_before place [] ++ rest → turns_by place ts ≡ rest
behind_none ts rest zero is = is
behind_none ts rest (suc n) is = is

behind_call : (t : RunTurn) (ts rest : List RunTurn) (place : ℕ) → t.pass ≡ 0
    → turns_by place (t ∷ ts) ≡ own_before place (t ∷ []) ++ rest → turns_by place ts ≡ rest
behind_call t ts rest zero first is =
    let mine : eqb t.pass 0 ≡ true = eq-eqb t.pass 0 first in
    let both : t ∷ turns_by 0 ts ≡ t ∷ rest =
    sym (ap (λ (b : Bool). cond b (t ∷ turns_by 0 ts) (turns_by 0 ts)) mine) ∙ is in
    cc
behind_call t ts rest (suc n) first is = by (eqb t.pass (suc n)) refl is
  where
    by : (b : Bool) → eqb t.pass (suc n) ≡ b → cond b (t ∷ turns_by (suc n) ts) (turns_by (suc n) ts) ≡ rest
        → turns_by (suc n) ts ≡ rest
    by true at same = absurd (let other = eqb-true t.pass (suc n) at in omega (arith, other, first))
    by false at same = same

-- what is a worker's behind the line's own call are its turns among those behind it
pub behind_own : (call : Option Call) (own middle first : List RunTurn) (short : Bool) → IsOwnCall call own short
    → turns_by 0 (own ++ middle) ≡ own ++ first → (place : ℕ) (rest : List RunTurn)
    → turns_by place (own ++ middle) ≡ own_before place own ++ rest → turns_by place middle ≡ rest
behind_own None own middle first short is zero_is place rest at =
    behind_none middle rest place
    (subst (λ (o : List RunTurn). turns_by place (o ++ middle) ≡ own_before place o ++ rest) is.0 at)
behind_own (Some call) own middle first short is zero_is place rest at =
    behind_call is.0 middle rest place
    (head_pass is.0 middle first (subst (λ (o : List RunTurn). turns_by 0 (o ++ middle) ≡ o ++ first) is.1 zero_is))
    (subst (λ (o : List RunTurn). turns_by place (o ++ middle) ≡ own_before place o ++ rest) is.1 at)

-- Turns of the table, one after another.
use Rattle.std.proofs.Common.{◌≡◌, ℕ, Bool, List, [], ◌∷◌, ◌++◌, Option, Some, None, refl, subst}
use Rattle.engine_turns.specs.Told.{RunTurn}
use Rattle.conn_worker.specs.Hands.{WorkerAt}
use Rattle.conn_worker.specs.Table.{end_behind}
use Rattle.conn_worker.specs.Works.{Does, EndsOrGoesOn, Works}
use Rattle.conn_worker.specs.declared.ends.WorkEnd.{WorkEnd}

-- turns that ended nothing go on
goes_still : (end : Option WorkEnd) (Ended Ends Was Is : Type 0) → (Ended → None ≡ end) → (Was → Is)
    → EndsOrGoesOn end Ended Was → EndsOrGoesOn end Ends Is
goes_still None Ended Ends Was Is none goes was = goes was
goes_still (Some end) Ended Ends Was Is none goes was = (let n : None ≡ Some end = none was in cc)

-- its last turn ends the work or not
last_turn : (end result : Option WorkEnd) (t : RunTurn) (Ended GoingOn : Type 0) → result ≡ end → (result ≡ end → Ended)
    → (result ≡ None → GoingOn) → EndsOrGoesOn end Ended GoingOn
last_turn None result t Ended GoingOn is ended goes = goes is
last_turn (Some end) result t Ended GoingOn is ended goes = ended is

-- one turn more, behind turns that ended nothing
pub one_more : (tells : Bool) (worker : ℕ) (ts : List RunTurn) (a b c : WorkerAt) (told : ℕ) (t : RunTurn)
    (result : Option WorkEnd) → Works tells worker ts a b None → Does tells worker told t b c
    → result ≡ end_behind t.answer.said c.hand → Works tells worker (ts ++ t ∷ []) a c result
one_more tells worker [] a b c told t result works does is =
    let from : Does tells worker told t a c = subst (λ (w : WorkerAt). Does tells worker told t w c) works.0 does in (
      told,
      c,
      from,
      last_turn (end_behind t.answer.said c.hand) result t _ _ is (λ e. (refl, refl, e)) (λ none. (refl, none)),
    )
one_more tells worker (u ∷ ts) a b c told t result works does is = (
  works.0,
  works.1,
  works.2,
  goes_still (end_behind u.answer.said works.1.hand) _ _ _ _ (λ ended. ended.2)
      (λ goes. one_more tells worker ts works.1 b c told t result goes does is) works.3,
)

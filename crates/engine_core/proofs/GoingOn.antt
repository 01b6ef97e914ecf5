-- From the disk that an engine was given its turns go on.
use Rattle.std.proofs.Common.{◌≡◌, ℕ, Bool, List, [], ◌∷◌, ◌++◌, reverse, sym, ap, ◌∙◌, subst}
use Rattle.std.specs.Prelude.{IsTrue}
use Rattle.std.proofs.lemmas.List.{reverse-append}
use Rattle.dl_disk.specs.Passes.{Passes, passes_more, passes_none}
use Rattle.dl_disk.specs.State.{DiskState}
use Rattle.engine_turns.specs.Told.{RunTurn}
use Rattle.engine_turns.specs.declared.operations.Answer.{Answer}
use Rattle.engine_turns.specs.declared.operations.Operation.{Operation}
use Rattle.stored_run.specs.Leavings.{AnyChange}
use Rattle.turn_desk.specs.Turns.{ServesTurn, turn_of}
use Rattle.engine_core.specs.Beginnings.{GoesOnFrom, beginning_of, events_in, mark_of, stands_for, ties_run}
use Rattle.engine_core.specs.EngineViews.{EngineView}
use Rattle.engine_core.specs.Engines.{moment_told}
use Rattle.engine_core.proofs.Taking.{TurnTaken}

-- before the first turn
pub goes_on_now : {D : Type 0} (state : D → DiskState) (now given : D) → now ≡ given
    → GoesOnFrom [] (state given) (state now)
goes_on_now state now given same = record {
  passes = subst (λ x. Passes AnyChange (state given) (state x)) (sym same)
      (passes_none AnyChange (state given) (λ image. tt));
  first = λ newer t cut. by newer t cut;
}
  where
    by : {P : Type 0} (newer : List RunTurn) (t : RunTurn) → [] ≡ newer ++ t ∷ [] → P
    by [] t cut = absurd cc
    by (n ∷ newer) t cut = absurd cc

-- one turn more
goes_on_more : (told : List RunTurn) (t : RunTurn) (given d new : DiskState) → GoesOnFrom told given d
    → Passes AnyChange d new → t.before.time ≡ d.moment → (told ≡ [] → d.moment ≡ given.moment)
    → GoesOnFrom (t ∷ told) given new
goes_on_more told t given d new on passes before none = record {
  passes = passes_more AnyChange given d new (λ x y z first second. tt) on.passes passes;
  first = λ newer u cut. by newer u cut;
}
  where
    by : (newer : List RunTurn) (u : RunTurn) → (t ∷ told) ≡ newer ++ u ∷ [] → u.before.time ≡ given.moment
    by [] u cut =
        let same : t ≡ u = cc in
        let last : told ≡ [] = cc in
        ap (λ (x : RunTurn). x.before.time) (sym same) ∙ (before ∙ none last)
    by (n ∷ newer) u cut = on.first newer u (let rest : told ≡ newer ++ u ∷ [] = cc in rest)

-- the turn of an engine, from the one of what it keeps
module _ {D : Type 0} (tells : Bool) (state : D → DiskState) (faults : D → ℕ) (op : Operation) (answer : Answer)
    (old new : EngineView D) (given : new.given ≡ old.given)
    (took : TurnTaken tells state faults op old.state new.state answer)
    (passes : IsTrue tells → Passes AnyChange (state old.state.run.disk) (state new.state.run.disk)) where
  pub same_beginning : beginning_of new ≡ beginning_of old
  same_beginning i = record { run = took.start i; disk = given i }

  pub serves_run : ServesTurn ties_run (stands_for tells state) beginning_of events_in (mark_of tells state faults) old op answer new
  serves_run turns pass is =
      let t = turn_of pass turns op answer (events_in old) (mark_of tells state faults old) (events_in new) (mark_of tells state faults new) in
      let one = took.turn turns pass is.stands in
      let order : reverse (turns ++ t ∷ []) ≡ t ∷ reverse turns = reverse-append turns (t ∷ []) in (
        one.0,
        record {
          stands = one.1;
          goes_on = λ told_is.
              subst (λ (l : List RunTurn). GoesOnFrom l (state new.given) (state new.state.run.disk)) (sym order)
              (subst (λ x. GoesOnFrom (t ∷ reverse turns) (state x) (state new.state.run.disk)) (sym given)
              (goes_on_more (reverse turns) t (state old.given) (state old.state.run.disk) (state new.state.run.disk)
              (is.goes_on told_is) (passes told_is) (ap (λ (b : Bool). moment_told b (state old.state.run.disk)) told_is)
              (λ none. ap (λ x. (state x).moment) (is.untouched none))));
          untouched = λ none.
              absurd (let never : t ∷ reverse turns ≡ [] = sym order ∙ none in cc);
        },
      )

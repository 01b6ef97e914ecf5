-- The line's own call stands before all else in the history of a run.
use Rattle.std.proofs.Common.{◌≡◌, ⊎_elim, ℕ, Bool, List, [], ◌∷◌, ◌++◌, Option, None, Some, refl, sym, ap, ◌∙◌, subst}
use Rattle.std.specs.Prelude.{All, Contains}
use Rattle.std.proofs.lemmas.List.Elements.{All-cons, All-nil, Contains-push_cases}
use Rattle.served_runs.proofs.TurnLists.{none_there}
use Rattle.console_session.specs.CallTurns.{IsOfSession, reply_places}
use Rattle.console_session.specs.SessionLaws.{RepliesAreOfTheHistory, turns_calling}
use Rattle.dl_disk.specs.declared.disk.Disk.{Ghosts as DiskSays}
use Rattle.dl_kinds.specs.declared.outside.Sink.{Ghosts as SinkSays}
use Rattle.engine_turns.specs.Told.{RunTurn}
use Rattle.machine_core.specs.declared.calls.Call.{Call}
use Rattle.run_lifecycle.specs.Begins.{IsOwnCall}
use Rattle.run_lifecycle.specs.Finishes.{Ran}
use Rattle.run_lifecycle.specs.declared.ended.Ended.{Ended}
use Rattle.run_lifecycle.proofs.Ran as ran_facts
use Rattle.shared_run.proofs.CallPlaces.{session_calls}
use Rattle.shared_run.proofs.Replied.{reply_at}

abbrev AreOwn : List RunTurn → Type 0
AreOwn turns = All (λ (t : RunTurn). IsOfSession 0 t.op) turns

own_kinds : (call : Option Call) (own : List RunTurn) (short : Bool) → IsOwnCall call own short → AreOwn own
own_kinds None own short is = subst AreOwn (sym is.0) (All-nil (λ (t : RunTurn). IsOfSession 0 t.op))
own_kinds (Some call) own short is =
    let P : RunTurn → Type 0 = λ t. IsOfSession 0 t.op in
    subst AreOwn (sym is.1) (All-cons P is.0 [] (subst (IsOfSession 0) (sym is.2) refl) (All-nil P))

-- it is the only turn
own_turn : (call : Option Call) (own : List RunTurn) (short : Bool) → IsOwnCall call own short → (t : RunTurn)
    → Contains own t → own ≡ t ∷ []
own_turn None own short is t there = none_there t (subst (λ (ts : List RunTurn). Contains ts t) is.0 there)
own_turn (Some call) own short is t there = ⊎_elim (λ (none : Contains [] t). none_there t none)
    (λ (same : is.0 ≡ t). is.1 ∙ ap (λ (u : RunTurn). u ∷ []) same)
    (Contains-push_cases [] is.0 t (subst (λ (ts : List RunTurn). Contains ts t) is.1 there))

module _ {D O : Type 0} {says : DiskSays D} {sinks : SinkSays O} {words : List (List ℕ)} {gids doors : ℕ} {disk : D}
    {out : O} {ended : Ended D} {out' : O} (replies : RepliesAreOfTheHistory)
    (ran : Ran says sinks words gids doors disk out ended out') where
  abbrev own : List RunTurn
  own = ran.begun.desk.own

  pub first_place : (place : ℕ) → Contains (reply_places (turns_calling 0 own)) place → place ≡ 0
  first_place place there =
      let kinds = own_kinds ran.begins.call own ran.begun.is_short ran.begins.own in
      let at = reply_at 0 own kinds place
      (subst (λ (ts : List RunTurn). Contains (reply_places ts) place) (session_calls 0 own kinds) there) in
      let alone = own_turn ran.begins.call own ran.begun.is_short ran.begins.own at.t at.there in
      let cut : ran_facts.turns ran ≡ [] ++ at.t ∷ (ran.stops.middle ++ ran.stops.last ∷ []) =
      ap (λ (ts : List RunTurn). (ts ++ ran.stops.middle) ++ ran.stops.last ∷ []) alone in
      (replies (ran_facts.start ran) [] at.t 0 at.call at.asked place at.reply at.starved
      (ran_facts.may_come ran [] at.t (ran.stops.middle ++ ran.stops.last ∷ []) cut) at.op_is at.said_is).place_is

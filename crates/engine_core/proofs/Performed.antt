-- Operations that let nothing go: they grant nothing, and let no bytes through.
use Rattle.std.proofs.Common.{◌≡◌, inl, inr, ◌≤◌, ℕ, Bool, true, false, Option, Some, None, List, [], ◌++◌, refl, sym, ap, ◌∙◌, subst, arith}
use Rattle.std.specs.Prelude.{◌&&◌, All, filter, max, not}
use Rattle.dl_kinds.specs.declared.runs.Moment.{Moment}
use Rattle.machine_core.specs.MachineViews.{MachineView}
use Rattle.machine_core.specs.TurnRooms.{IsRoomierRun}
use Rattle.machine_core.specs.Starts.{RunStart}
use Rattle.machine_core.specs.declared.events.Event.{Event}
use Rattle.machine_core.specs.declared.handed.Handed.{Handed}
use Rattle.engine_turns.specs.Faults.{CountsFaults}
use Rattle.engine_turns.specs.Levels.{spent_by}
use Rattle.engine_turns.specs.Phases.{TurnStart}
use Rattle.engine_turns.specs.RunTurns.{IsAnswered, OperationRow, answer_before, answer_to, takes_memory}
use Rattle.engine_turns.specs.Standings.{RunStanding}
use Rattle.engine_turns.specs.Told.{history_after, is_taken, moment_of_operation, seals_handed}
use Rattle.engine_turns.specs.declared.operations.Operation.{Operation}
use Rattle.engine_turns.specs.declared.operations.Said.{Said}
use Rattle.stored_run.specs.Steps.{DoesRow, turn_from}
use Rattle.stored_run.specs.declared.run.StoredView.{StoredView}
use Rattle.engine_core.specs.Beginning.{Begins, IsBrokenOff}
use Rattle.engine_core.specs.Buckets.{HasRates, LevelsGoOn}
use Rattle.engine_core.specs.Engines.{KeepsRates, past_of, standing_of, start_of}
use Rattle.engine_core.specs.Handing.{IsUnsettled}
use Rattle.engine_core.specs.Performing.{HandsUnsettled, Performs, handed_after}
use Rattle.engine_core.specs.declared.state.EngineState.{EngineState}
use Rattle.engine_core.proofs.Calm.{AreCalm, StaysUncalled, no_events, stays_uncalled}
use Rattle.engine_core.proofs.Handings.{filter_all}
use Rattle.engine_core.proofs.Letting.{front_lets_none, lets_go, nothing_handed, nothing_spent}
use Rattle.engine_core.proofs.Levels.{levels_stay, rates_stay}

-- ---- the pieces that are out

pub handed_stay : (op : Operation) (said : Said) (pieces : List Handed) → ((h : Handed) → seals_handed h op ≡ false)
    → lets_go said ≡ false → pieces ≡ handed_after op said pieces
handed_stay op said pieces unsealed none =
    sym (ap (λ (new : List Handed). filter (λ h. not (seals_handed h op && is_taken said)) (new ++ pieces)) (nothing_handed said none)
    ∙ filter_all (λ h. not (seals_handed h op && is_taken said)) pieces (λ h. let is = unsealed h in rw is refl))

-- none more are out
pub out_same : {D : Type 0} (old new : EngineState D) → new.handed.pieces ≡ old.handed.pieces → HandsUnsettled old new
out_same old new same out = subst (All (IsUnsettled (start_of old) (past_of old))) (sym same) out

-- ---- an operation that is broken off, or makes a row of the run

module _ {D : Type 0} (op : Operation) (now : Moment) (brings : moment_of_operation op ≡ now.0) (old mid : EngineState D)
    (begins : Begins now old mid) where
  rates_then : (new : EngineState D) (events : List Event) → AreCalm events → new.limits ≡ old.limits
      → start_of new ≡ start_of old → past_of new ≡ history_after (past_of old) events
      → HasRates (start_of old) (past_of old) old.limits → KeepsRates new
  rates_then new events calm limits start past rates =
      subst (λ l. HasRates (start_of new) (past_of new) l) (sym limits)
      (subst (λ (s : RunStart). HasRates s (past_of new) old.limits) (sym start)
      (subst (λ (p : List Event). HasRates (start_of old) p old.limits) (sym past)
      (rates_stay (start_of old) (past_of old) (history_after (past_of old) events)
      (stays_uncalled (start_of old) (past_of old) events calm) old.limits rates)))

  -- nothing came
  pub nothing_came : (f f' : ℕ) (asks needs : Bool) (said : Said) → f' ≡ f → HasRates (start_of old) (past_of old) old.limits
      → (answer_to asks needs (start_of old) (past_of old) ≡ None → takes_memory op ≡ true)
      → answer_before (start_of old) (past_of old) op ≡ answer_to asks needs (start_of old) (past_of old)
      → IsBrokenOff (answer_to asks needs (start_of old) (past_of old)) said
      → old.handed.pieces ≡ handed_after op said old.handed.pieces → Performs op old f mid f' said
  nothing_came f f' asks needs said more rates takes front is stay =
      let none = front_lets_none asks needs (start_of old) (past_of old) said is in
      record {
        answers = record {
          start = begins.machine.start_is;
          now = begins.moment ∙ ap (λ (n : ℕ). max n old.run.now.0) (sym brings);
          events = [];
          grown = begins.machine.past_is;
          answered = subst (IsAnswered (record { start = start_of old; now = mid.run.now; faults = f }) (standing_of old) op [] said)
              (sym front)
              (by (record { start = start_of old; now = mid.run.now; faults = f })
              (answer_to asks needs (start_of old) (past_of old)) refl is);
          later = omega (arith, more);
          counts = more;
          levels = subst (λ l. LevelsGoOn (start_of old) (past_of old) (past_of mid) (spent_by (start_of old) (past_of old) op said) mid.run.now.0 old.limits l)
              (sym begins.limits)
              (subst (λ s. LevelsGoOn (start_of old) (past_of old) (past_of mid) s mid.run.now.0 old.limits old.limits)
              (sym (nothing_spent (start_of old) (past_of old) op said none))
              (levels_stay (start_of old) (past_of old) (past_of mid)
              (subst (StaysUncalled (start_of old) (past_of old)) (sym begins.machine.past_is)
              (stays_uncalled (start_of old) (past_of old) [] (no_events [] refl))) mid.run.now.0 old.limits rates));
        };
        handed = ap (λ h. h.pieces) begins.handed ∙ stay;
        out = out_same old mid (ap (λ h. h.pieces) begins.handed);
        rates = rates_then mid [] (no_events [] refl) begins.limits begins.machine.start_is begins.machine.past_is rates;
      }
    where
      by : (at : TurnStart) (o : Option Said) → answer_to asks needs (start_of old) (past_of old) ≡ o
          → IsBrokenOff o said → IsAnswered at (standing_of old) op [] said o
      by at (Some before) front_is said_is = (refl, said_is)
      by at None front_is said_is = inl (takes front_is, (refl, said_is))

  -- a row of the run, with no call and nothing that is let go
  pub row_came : (Row : TurnStart → RunStanding → List Event → Said → Type 0) (run : StoredView D) (before f f' : ℕ)
      (new : EngineState D) (said : Said) → f ≡ before → HasRates (start_of old) (past_of old) old.limits
      → answer_before (start_of old) (past_of old) op ≡ None → DoesRow Row mid.run f run f' said
      → run.machine.start ≡ mid.run.machine.start → run.now ≡ mid.run.now
      → new.run ≡ run → new.limits ≡ mid.limits
      → ((events : List Event) → Row (turn_from mid.run before) (standing_of old) events said
      → OperationRow (turn_from mid.run before) (standing_of old) op events said)
      → ((at : TurnStart) (s : RunStanding) (events : List Event) → Row at s events said → AreCalm events × (lets_go said ≡ false))
      → new.handed.pieces ≡ handed_after op said old.handed.pieces → HandsUnsettled old new
      → Performs op old before new f' said
  row_came Row run before f f' new said more rates front row start_is now_is run_is limits_is gives calm handed out =
      let at : TurnStart = turn_from mid.run before in
      let s = standing_of old in
      let here = row.is before s (omega (arith, more)) (sym begins.machine.past_is) in
      let quiet = calm at s row.events here in
      let past_is : past_of new ≡ history_after (past_of old) row.events =
      ap (λ r. r.machine.past) run_is ∙ (row.grown ∙ ap (λ (p : List Event). history_after p row.events) begins.machine.past_is) in
      let turn_is : at ≡ record { start = start_of old; now = new.run.now; faults = before } =
      λ i. record { start = begins.machine.start_is i; now = sym (ap (λ r. r.now) run_is ∙ now_is) i; faults = before } in
      record {
        answers = record {
          start = ap (λ r. r.machine.start) run_is ∙ (start_is ∙ begins.machine.start_is);
          now = ap (λ r. r.now.0) run_is ∙ (ap (λ (m : Moment). m.0) now_is ∙ (begins.moment ∙ ap (λ (n : ℕ). max n old.run.now.0) (sym brings)));
          events = row.events;
          grown = past_is;
          answered = subst (IsAnswered (record { start = start_of old; now = new.run.now; faults = before }) s op row.events said)
              (sym front) (inr (subst (λ (a : TurnStart). OperationRow a s op row.events said) turn_is (gives row.events here)));
          later = omega (arith, more, row.later);
          counts = subst (λ (n : ℕ). CountsFaults n row.events f') more row.counts;
          levels = subst (λ l. LevelsGoOn (start_of old) (past_of old) (past_of new) (spent_by (start_of old) (past_of old) op said) new.run.now.0 old.limits l)
              (sym (limits_is ∙ begins.limits))
              (subst (λ sp. LevelsGoOn (start_of old) (past_of old) (past_of new) sp new.run.now.0 old.limits old.limits)
              (sym (nothing_spent (start_of old) (past_of old) op said quiet.1))
              (levels_stay (start_of old) (past_of old) (past_of new)
              (subst (StaysUncalled (start_of old) (past_of old)) (sym past_is)
              (stays_uncalled (start_of old) (past_of old) row.events quiet.0)) new.run.now.0 old.limits rates));
        };
        handed = handed;
        out = out;
        rates = rates_then new row.events quiet.0 (limits_is ∙ begins.limits)
            (ap (λ r. r.machine.start) run_is ∙ (start_is ∙ begins.machine.start_is)) past_is rates;
      }

-- ---- .. that no seal is

module _ {D : Type 0} (op : Operation) (unsealed : (h : Handed) → seals_handed h op ≡ false) (now : Moment)
    (brings : moment_of_operation op ≡ now.0) (old mid : EngineState D) (begins : Begins now old mid) where
  pub broken_off : (f f' : ℕ) (asks needs : Bool) (said : Said) → f' ≡ f → HasRates (start_of old) (past_of old) old.limits
      → (answer_to asks needs (start_of old) (past_of old) ≡ None → takes_memory op ≡ true)
      → answer_before (start_of old) (past_of old) op ≡ answer_to asks needs (start_of old) (past_of old)
      → IsBrokenOff (answer_to asks needs (start_of old) (past_of old)) said → Performs op old f mid f' said
  broken_off f f' asks needs said more rates takes front is =
      nothing_came op now brings old mid begins f f' asks needs said more rates takes front is
      (handed_stay op said old.handed.pieces unsealed (front_lets_none asks needs (start_of old) (past_of old) said is))

  pub row_performed : (Row : TurnStart → RunStanding → List Event → Said → Type 0) (run : StoredView D) (before f f' : ℕ)
      (new : EngineState D) (said : Said) → f ≡ before → HasRates (start_of old) (past_of old) old.limits
      → answer_before (start_of old) (past_of old) op ≡ None → DoesRow Row mid.run f run f' said
      → run.machine.start ≡ mid.run.machine.start → run.now ≡ mid.run.now
      → new.run ≡ run → new.handed ≡ mid.handed → new.limits ≡ mid.limits
      → ((at : TurnStart) (s : RunStanding) (events : List Event) → Row at s events said → OperationRow at s op events said)
      → ((at : TurnStart) (s : RunStanding) (events : List Event) → Row at s events said → AreCalm events × (lets_go said ≡ false))
      → Performs op old before new f' said
  row_performed Row run before f f' new said more rates front row start_is now_is run_is handed_is limits_is gives calm =
      let same = ap (λ h. h.pieces) (handed_is ∙ begins.handed) in
      let here = row.is before (standing_of old) (omega (arith, more)) (sym begins.machine.past_is) in
      row_came op now brings old mid begins Row run before f f' new said more rates front row start_is now_is run_is limits_is
      (λ events is. gives (turn_from mid.run before) (standing_of old) events is) calm
      (same ∙ handed_stay op said old.handed.pieces unsealed (calm (turn_from mid.run before) (standing_of old) row.events here).1)
      (out_same old new same)

-- ---- beginnings

roomier_same : (m n : MachineView) → n ≡ m → IsRoomierRun m n
roomier_same m n same =
    subst (IsRoomierRun m) (sym same)
    (record { start_is = refl; past_is = refl; spare = omega arith; mark_spare = λ gid. omega arith })

-- only the moment came
pub came_to : {D : Type 0} (now : Moment) (old mid : EngineState D)
    → mid.run ≡ record old.run { now = record { 0 = max now.0 old.run.now.0 } } → mid.handed ≡ old.handed
    → mid.limits ≡ old.limits → Begins now old mid
came_to now old mid run handed limits = record {
  machine = roomier_same old.run.machine mid.run.machine (ap (λ r. r.machine) run);
  disk = ap (λ r. r.disk) run;
  wants = ap (λ r. r.wants) run;
  moment = ap (λ r. r.now.0) run;
  handed = handed;
  limits = limits;
}

-- no moment came
pub stays_at : {D : Type 0} (old : EngineState D) → Begins (record { 0 = 0 }) old old
stays_at old = record {
  machine = roomier_same old.run.machine old.run.machine refl;
  disk = refl;
  wants = refl;
  moment = omega arith;
  handed = refl;
  limits = refl;
}

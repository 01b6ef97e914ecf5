-- A call of the console, which is performed where a row of the run is made and the buckets follow the options.
use Rattle.std.proofs.Common.{◌≡◌, inl, inr, ⊎_elim, ◌≤◌, ◌+◌, ℕ, false, None, List, [], ◌∷◌, length, refl, sym, ap, ◌∙◌, subst, arith}
use Rattle.std.specs.Prelude.{Some, slice_get, slice_index_or}
use Rattle.std.proofs.lemmas.List.{length-append}
use Rattle.dl_kinds.specs.declared.runs.Moment.{Moment}
use Rattle.engine_turns.specs.CallRows.{CallRow}
use Rattle.engine_turns.specs.Faults.{CountsFaults}
use Rattle.engine_turns.specs.Levels.{downloads_of, overall_rate, own_rate, with_new_rate}
use Rattle.engine_turns.specs.Phases.{TurnStart}
use Rattle.engine_turns.specs.RunTurns.{IsAnswered, answer_before}
use Rattle.engine_turns.specs.Standings.{RunStanding}
use Rattle.engine_turns.specs.Told.{history_after}
use Rattle.engine_turns.specs.declared.operations.Operation.{Operation}
use Rattle.engine_turns.specs.declared.operations.Operation.TheVariants as operation
use Rattle.engine_turns.specs.declared.operations.Said.{Said}
use Rattle.machine_core.specs.Starts.{Download, RunStart}
use Rattle.machine_core.specs.declared.calls.Call.{Call}
use Rattle.machine_core.specs.declared.calls.Call.TheVariants as call
use Rattle.machine_core.specs.declared.events.Event.{Event}
use Rattle.machine_core.specs.declared.events.Event.TheVariants.{Called}
use Rattle.rate_limits.specs.Shared.{RunLevels, own_level}
use Rattle.rate_tokens.specs.Level.{full_level}
use Rattle.stored_run.specs.Saves.{UnlessStarved}
use Rattle.stored_run.specs.Steps.{DoesRow, turn_from}
use Rattle.stored_run.specs.declared.run.StoredView.{StoredView}
use Rattle.engine_core.specs.Beginning.{Begins}
use Rattle.engine_core.specs.Buckets.{FollowOptions, HasRates, HaveRates, LevelsGoOn, changes_options, all_followed, followed, own_rates}
use Rattle.engine_core.specs.Engines.{past_of, standing_of, start_of}
use Rattle.engine_core.specs.Performing.{Performs}
use Rattle.engine_core.specs.declared.state.EngineState.{EngineState}
use Rattle.engine_core.proofs.Calm.{stays_uncalled}
use Rattle.engine_core.proofs.CalmRows.{saves_calm}
use Rattle.engine_core.proofs.Downloads.{AddsNew, GrowsByNew, downloads_grow, event_adds}
use Rattle.engine_core.proofs.Letting.{lets_go, nothing_spent}
use Rattle.engine_core.proofs.NewRates.{all_followed_length, all_followed_rate, followed_rate, levels_followed, map_length, map_there, prefix_there}
use Rattle.engine_core.proofs.Performed.{handed_stay, out_same}

-- ---- the buckets

module _ (start : RunStart) (past after : List Event) (now : ℕ) (old new : RunLevels)
    (grows : GrowsByNew (downloads_of start past) (downloads_of start after)) (rates : HasRates start past old)
    (follow : FollowOptions start after now old new) where
  enough : length old.own ≤ length (downloads_of start after)
  enough =
      let many = rates.many in
      let all = ap (λ (ds : List Download). length ds) grows.is ∙ length-append (downloads_of start past) grows.more in
      omega (arith, many, all)

  pub levels_called : LevelsGoOn start past after None now old new
  levels_called = record {
    overall = follow.overall
        ∙ ap (λ (r : ℕ). with_new_rate r (overall_rate start after) now old.overall) rates.overall;
    own = follow.own
        ∙ sym (levels_followed start past after now (downloads_of start after) old.own
        (λ place d there within. rates.own place d
        (prefix_there (downloads_of start past) grows.more place d
        (subst (λ (ds : List Download). slice_get ds place ≡ Some d) grows.is there)
        (let many = rates.many in omega (arith, within, many)))) enough);
  }

  pub rates_called : HasRates start after new
  rates_called = record {
    many =
        ap (λ ls. length ls) follow.own
        ∙ (all_followed_length (own_rates start after) now old.own
        (let many = map_length (own_rate start after) (downloads_of start after) in let few = enough in omega (arith, many, few))
        ∙ map_length (own_rate start after) (downloads_of start after));
    overall = ap (λ l. l.rate) follow.overall ∙ followed_rate (overall_rate start after) now old.overall;
    own = λ place d there.
        ap (λ ls. (slice_index_or ls place (full_level 0 0)).rate) follow.own
        ∙ all_followed_rate (own_rates start after) now old.own place (own_rate start after d)
        (map_there (own_rate start after) (downloads_of start after) place d there);
  }

-- the room of the buckets isn't looked at
pub follow_from : (start : RunStart) (past : List Event) (now : ℕ) (old roomy new : RunLevels)
    → roomy ≡ record old { room = roomy.room } → FollowOptions start past now roomy new → FollowOptions start past now old new
follow_from start past now old roomy new same follow = record {
  overall = follow.overall ∙ ap (λ l. followed (overall_rate start past) now l.overall) same;
  own = follow.own ∙ ap (λ l. all_followed (own_rates start past) now l.own) same;
}

-- ---- one download at most comes by a call

adds_few : (old new : List Download) → AddsNew old new → length new ≤ length old + 1
adds_few old new (inl same) = let is = ap (λ (ds : List Download). length ds) same in omega (arith, is)
adds_few old new (inr more) =
    let is = ap (λ (ds : List Download). length ds) more.1 ∙ length-append old (more.0 ∷ []) in omega (arith, is)

row_adds_few : (at : TurnStart) (s : RunStanding) (session : ℕ) (call : Call) (events : List Event) (said : Said)
    → UnlessStarved (CallRow at s session call) events said
    → length (downloads_of at.start (history_after s.past events)) ≤ length (downloads_of at.start s.past) + 1
row_adds_few at s session call events said is = ⊎_elim
    (λ none. subst (λ (es : List Event). length (downloads_of at.start (history_after s.past es))
    ≤ length (downloads_of at.start s.past) + 1) (sym none.0) (omega arith))
    (λ (row : CallRow at s session call events said).
    let called = Called session call at.now ∷ s.past in
    let still = stays_uncalled at.start called row.saves (saves_calm at row.those called row.saves row.outcome row.saved) in
    let few = adds_few (downloads_of at.start s.past) (downloads_of at.start called) (event_adds at.start s.past (Called session call at.now)) in
    let same = ap (λ (ds : List Download). length ds) still.downloads in
    subst (λ (es : List Event). length (downloads_of at.start (history_after s.past es))
    ≤ length (downloads_of at.start s.past) + 1) (sym row.cut) (omega (arith, few, same))) is

pub called_few : {D : Type 0} (session : ℕ) (call : Call) (old new : StoredView D) (f f' : ℕ) (said : Said)
    → DoesRow (λ at s. UnlessStarved (CallRow at s session call)) old f new f' said
    → new.machine.start ≡ old.machine.start
    → length (downloads_of new.machine.start new.machine.past) ≤ length (downloads_of old.machine.start old.machine.past) + 1
called_few session call old new f f' said row start_is =
    let s : RunStanding = record { past = old.machine.past; handed = []; overall = full_level 0 0; own = [] } in
    let few = row_adds_few (turn_from old f) s session call row.events said (row.is f s (omega arith) refl) in
    subst (λ (st : RunStart). length (downloads_of st new.machine.past) ≤ length (downloads_of old.machine.start old.machine.past) + 1)
    (sym start_is)
    (subst (λ (past : List Event). length (downloads_of old.machine.start past)
    ≤ length (downloads_of old.machine.start old.machine.past) + 1) (sym row.grown) few)

-- ---- the rates of those that were there

uncalled_rate : (start : RunStart) (past : List Event) (session : ℕ) (asked : Call) (now : Moment) (d : Download)
    → changes_options asked ≡ false → own_rate start (Called session asked now ∷ past) d ≡ own_rate start past d
uncalled_rate start past session (call.ChangeOption key options) now d none = absurd cc
uncalled_rate start past session other now d none = refl

row_keeps : (at : TurnStart) (s : RunStanding) (session : ℕ) (asked : Call) (events : List Event) (said : Said)
    → UnlessStarved (CallRow at s session asked) events said → changes_options asked ≡ false → (d : Download)
    → own_rate at.start (history_after s.past events) d ≡ own_rate at.start s.past d
row_keeps at s session asked events said is none d = ⊎_elim
    (λ starved. ap (λ (es : List Event). own_rate at.start (history_after s.past es) d) starved.0)
    (λ (row : CallRow at s session asked events said).
    let called = Called session asked at.now ∷ s.past in
    let still = stays_uncalled at.start called row.saves (saves_calm at row.those called row.saves row.outcome row.saved) in
    ap (λ (es : List Event). own_rate at.start (history_after s.past es) d) row.cut
    ∙ (still.own d ∙ uncalled_rate at.start s.past session asked at.now d none)) is

-- unless its options changed the bucket of a download that was there has its rate
pub called_kept : {D : Type 0} (session : ℕ) (asked : Call) (old new : StoredView D) (f f' : ℕ) (said : Said)
    (levels : RunLevels) → DoesRow (λ at s. UnlessStarved (CallRow at s session asked)) old f new f' said
    → new.machine.start ≡ old.machine.start → HasRates old.machine.start old.machine.past levels
    → changes_options asked ≡ false
    → HaveRates new.machine.start new.machine.past (downloads_of new.machine.start new.machine.past) levels.own
called_kept session asked old new f f' said levels row start_is rates none =
    let s : RunStanding = record { past = old.machine.past; handed = []; overall = full_level 0 0; own = [] } in
    let start = old.machine.start in
    let past = old.machine.past in
    let after = history_after past row.events in
    let here = row.is f s (omega arith) refl in
    let grows = downloads_grow start past row.events in
    let kept : HaveRates start after (downloads_of start after) levels.own =
    λ place d there within.
    rates.own place d
    (prefix_there (downloads_of start past) grows.more place d
    (subst (λ (ds : List Download). slice_get ds place ≡ Some d) grows.is there)
    (let many = rates.many in omega (arith, within, many)))
    ∙ sym (row_keeps (turn_from old f) s session asked row.events said here none d) in
    subst (λ (st : RunStart). HaveRates st new.machine.past (downloads_of st new.machine.past) levels.own) (sym start_is)
    (subst (λ (p : List Event). HaveRates start p (downloads_of start p) levels.own) (sym row.grown) kept)

-- none goes
pub called_more : {D : Type 0} (session : ℕ) (asked : Call) (old new : StoredView D) (f f' : ℕ) (said : Said)
    → DoesRow (λ at s. UnlessStarved (CallRow at s session asked)) old f new f' said
    → new.machine.start ≡ old.machine.start
    → length (downloads_of old.machine.start old.machine.past) ≤ length (downloads_of new.machine.start new.machine.past)
called_more session asked old new f f' said row start_is =
    let start = old.machine.start in
    let past = old.machine.past in
    let grows = downloads_grow start past row.events in
    let all = ap (λ (ds : List Download). length ds) grows.is ∙ length-append (downloads_of start past) grows.more in
    let more : length (downloads_of start past) ≤ length (downloads_of start (history_after past row.events)) =
    omega (arith, all) in
    subst (λ (st : RunStart). length (downloads_of start past) ≤ length (downloads_of st new.machine.past)) (sym start_is)
    (subst (λ (p : List Event). length (downloads_of start past) ≤ length (downloads_of start p)) (sym row.grown) more)

-- ---- the call

starved_lets_none : (at : TurnStart) (s : RunStanding) (session : ℕ) (call : Call) (events : List Event) (said : Said)
    → UnlessStarved (CallRow at s session call) events said → lets_go said ≡ false
starved_lets_none at s session call events said is =
    ⊎_elim (λ none. ap lets_go none.1) (λ (row : CallRow at s session call events said). ap lets_go row.answer) is

module _ {D : Type 0} (session : ℕ) (call : Call) (now : Moment) (old mid : EngineState D) (begins : Begins now old mid)
  where
    abbrev op : Operation
    op = operation.Call session call now

    pub call_performed : (run : StoredView D) (before f f' : ℕ) (new : EngineState D) (said : Said) → f ≡ before
        → HasRates (start_of old) (past_of old) old.limits → answer_before (start_of old) (past_of old) op ≡ None
        → DoesRow (λ at s. UnlessStarved (CallRow at s session call)) mid.run f run f' said
        → run.machine.start ≡ mid.run.machine.start → run.now ≡ mid.run.now
        → new.run ≡ run → new.handed ≡ mid.handed
        → FollowOptions (start_of new) (past_of new) new.run.now.0 mid.limits new.limits
        → Performs op old before new f' said
    call_performed run before f f' new said more rates front row start_is now_is run_is handed_is follow =
        let at : TurnStart = turn_from mid.run before in
        let s = standing_of old in
        let here = row.is before s (omega (arith, more)) (sym begins.machine.past_is) in
        let none = starved_lets_none at s session call row.events said here in
        let same_start : start_of new ≡ start_of old =
        ap (λ r. r.machine.start) run_is ∙ (start_is ∙ begins.machine.start_is) in
        let past_is : past_of new ≡ history_after (past_of old) row.events =
        ap (λ r. r.machine.past) run_is ∙ (row.grown ∙ ap (λ (p : List Event). history_after p row.events) begins.machine.past_is) in
        let turn_is : at ≡ record { start = start_of old; now = new.run.now; faults = before } =
        λ i. record { start = begins.machine.start_is i; now = sym (ap (λ r. r.now) run_is ∙ now_is) i; faults = before } in
        let grows : GrowsByNew (downloads_of (start_of old) (past_of old)) (downloads_of (start_of old) (past_of new)) =
        subst (λ (p : List Event). GrowsByNew (downloads_of (start_of old) (past_of old)) (downloads_of (start_of old) p)) (sym past_is)
        (downloads_grow (start_of old) (past_of old) row.events) in
        let follows : FollowOptions (start_of old) (past_of new) new.run.now.0 old.limits new.limits =
        subst (λ (l : RunLevels). FollowOptions (start_of old) (past_of new) new.run.now.0 l new.limits) begins.limits
        (subst (λ (st : RunStart). FollowOptions st (past_of new) new.run.now.0 mid.limits new.limits) same_start follow) in
        record {
          answers = record {
            start = same_start;
            now = ap (λ r. r.now.0) run_is ∙ (ap (λ (m : Moment). m.0) now_is ∙ begins.moment);
            events = row.events;
            grown = past_is;
            answered = subst (IsAnswered (record { start = start_of old; now = new.run.now; faults = before }) s op row.events said)
                (sym front)
                (⊎_elim (λ starved. inl (refl, starved)) (λ (is : CallRow _ s session call row.events said). inr is)
                (subst (λ (a : TurnStart). UnlessStarved (CallRow a s session call) row.events said) turn_is here));
            later = omega (arith, more, row.later);
            counts = subst (λ (n : ℕ). CountsFaults n row.events f') more row.counts;
            levels = subst (λ sp. LevelsGoOn (start_of old) (past_of old) (past_of new) sp new.run.now.0 old.limits new.limits)
                (sym (nothing_spent (start_of old) (past_of old) op said none))
                (levels_called (start_of old) (past_of old) (past_of new) new.run.now.0 old.limits new.limits grows rates follows);
          };
          handed = ap (λ h. h.pieces) (handed_is ∙ begins.handed) ∙ handed_stay op said old.handed.pieces (λ h. refl) none;
          out = out_same old new (ap (λ h. h.pieces) (handed_is ∙ begins.handed));
          rates = subst (λ (st : RunStart). HasRates st (past_of new) new.limits) (sym same_start)
              (rates_called (start_of old) (past_of old) (past_of new) new.run.now.0 old.limits new.limits grows rates follows);
        }

-- ---- more room for buckets changes nothing that is told

pub roomier_performs : {D : Type 0} (op : Operation) (old mid : EngineState D) (f f' : ℕ) (said : Said) (levels : RunLevels)
    → levels ≡ record mid.limits { room = levels.room } → Performs op old f mid f' said
    → Performs op old f (record mid { limits = levels }) f' said
roomier_performs o old mid f f' said levels is done = record {
  answers = record {
    start = done.answers.start;
    now = done.answers.now;
    events = done.answers.events;
    grown = done.answers.grown;
    answered = done.answers.answered;
    later = done.answers.later;
    counts = done.answers.counts;
    levels = record {
      overall = ap (λ l. l.overall) is ∙ done.answers.levels.overall;
      own = ap (λ l. l.own) is ∙ done.answers.levels.own;
    };
  };
  handed = done.handed;
  out = done.out;
  rates = record {
    many = ap (λ l. length l.own) is ∙ done.rates.many;
    overall = ap (λ l. l.overall.rate) is ∙ done.rates.overall;
    own = λ place d there. ap (λ l. (own_level l place).rate) is ∙ done.rates.own place d there;
  };
}

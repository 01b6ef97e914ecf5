-- What is given in a turn, and what that leaves.
use Rattle.std.proofs.Common.{◌≡◌, inr, ⊎_elim, ◌≤◌, ◌<◌, ℕ, Bool, true, false, Some, None, List, ◌++◌, length, refl, sym, ap, ◌∙◌, subst, arith}
use Rattle.std.specs.Prelude.{◌&&◌, All, max, not}
use Rattle.std.proofs.lemmas.List.Elements.{All-append}
use Rattle.dl_kinds.specs.declared.gid.Gid.{Gid}
use Rattle.dl_kinds.specs.declared.runs.Moment.{Moment}
use Rattle.machine_core.specs.MachineViews.{place_in}
use Rattle.machine_core.specs.RunLegal.{is_listed}
use Rattle.machine_core.specs.Starts.{Download, RunStart}
use Rattle.machine_core.specs.declared.events.Event.{Event}
use Rattle.machine_core.specs.declared.handed.Handed.{Handed}
use Rattle.machine_core.specs.declared.offers.Offer.TheVariants as offer
use Rattle.rate_limits.specs.Shared.{levels_taken}
use Rattle.rate_tokens.specs.declared.bucket.Take.TheVariants.{Go}
use Rattle.engine_turns.proofs.Faults.{counts_later}
use Rattle.engine_turns.specs.Faults.{CountsFaults}
use Rattle.engine_turns.specs.Levels.{downloads_of, spent_by}
use Rattle.engine_turns.specs.NextRows.{IsFaulted, whole_row}
use Rattle.engine_turns.specs.Phases.{TurnStart}
use Rattle.engine_turns.specs.RunTurns.{IsAnswered, answer_before}
use Rattle.engine_turns.specs.Standings.{AnswersOnly, RunStanding}
use Rattle.engine_turns.specs.Told.{handed_by, history_after, is_taken, moment_of_operation, seals_handed}
use Rattle.engine_turns.specs.declared.operations.Operation.{Operation}
use Rattle.engine_turns.specs.declared.operations.Said.{Said}
use Rattle.engine_turns.specs.declared.operations.Said.TheVariants.{Done, NoMemory}
use Rattle.stored_run.specs.Granting.{UngivenRow, ungiven_row}
use Rattle.stored_run.specs.Settlings.{UnreadRow}
use Rattle.stored_run.specs.Steps.{turn_from}
use Rattle.engine_core.specs.Beginning.{Begins}
use Rattle.engine_core.specs.Buckets.{HasRates, LevelsGoOn}
use Rattle.engine_core.specs.Engines.{KeepsRates, past_of, standing_of, start_of}
use Rattle.engine_core.specs.Giving.{GivenRow, MakesRow, UnopenedRow}
use Rattle.engine_core.specs.Handing.{IsUnsettled}
use Rattle.engine_core.specs.Performing.{HandsUnsettled, Performs}
use Rattle.engine_core.specs.declared.state.EngineState.{EngineState}
use Rattle.engine_core.proofs.Calm.{AreCalm, StaysUncalled, calm_owned, no_events, stays_uncalled}
use Rattle.engine_core.proofs.CalmRows.{IsCalmRow, calm_only, unless_starved}
use Rattle.engine_core.proofs.Owned.{owned_counted, owned_faulted, owned_offer}
use Rattle.engine_core.proofs.Handings.{filter_all}
use Rattle.engine_core.proofs.Letting.{lets_go}
use Rattle.engine_core.proofs.Levels.{levels_stay}
use Rattle.engine_core.proofs.Spendings.{levels_spent, rates_on}

-- ---- from a beginning on

module _ {D : Type 0} (old mid : EngineState D) (now : Moment) (begins : Begins now old mid) where
  pub standing_begun : standing_of mid ≡ standing_of old
  standing_begun i = record {
    past = begins.machine.past_is i;
    handed = ap (λ h. h.pieces) begins.handed i;
    overall = ap (λ l. l.overall) begins.limits i;
    own = ap (λ l. l.own) begins.limits i;
  }

  module _ (op : Operation) (unsealed : (h : Handed) → seals_handed h op ≡ false)
      (Row : TurnStart → RunStanding → List Event → Said → Type 0) (new : EngineState D) (before f f' : ℕ) (said : Said)
      (brings : moment_of_operation op ≡ now.0) (more : f ≡ before) (rates : KeepsRates old)
      (front : answer_before (start_of old) (past_of old) op ≡ None) (gives : MakesRow op Row mid f new f' said)
      (answers : (at : TurnStart) (s : RunStanding) (events : List Event) → Row at s events said
      → IsAnswered at s op events said None)
      (calm : (at : TurnStart) (s : RunStanding) (events : List Event) → Row at s events said → AreCalm events) where
    abbrev here : Row (turn_from mid.run before) (standing_of mid) gives.events said
    here = gives.is before (omega (arith, more))

    start_then : start_of new ≡ start_of old
    start_then = gives.start ∙ begins.machine.start_is

    grown_then : past_of new ≡ history_after (past_of old) gives.events
    grown_then = gives.grown ∙ ap (λ (p : List Event). history_after p gives.events) begins.machine.past_is

    answered_then : IsAnswered (record { start = start_of old; now = new.run.now; faults = before }) (standing_of old) op
        gives.events said None
    answered_then =
        subst (λ (a : TurnStart). IsAnswered a (standing_of old) op gives.events said None)
        (λ i. record { start = begins.machine.start_is i; now = sym gives.now i; faults = before })
        (subst (λ (s : RunStanding). IsAnswered (turn_from mid.run before) s op gives.events said None) standing_begun
        (answers (turn_from mid.run before) (standing_of mid) gives.events here))

    levels_then : LevelsGoOn (start_of old) (past_of old) (past_of new) (spent_by (start_of old) (past_of old) op said)
        new.run.now.0 old.limits new.limits
    levels_then =
        subst (λ l. LevelsGoOn (start_of old) (past_of old) (past_of new) (spent_by (start_of old) (past_of old) op said) new.run.now.0 l new.limits)
        begins.limits
        (subst (λ (p : List Event). LevelsGoOn (start_of old) p (past_of new) (spent_by (start_of old) p op said) new.run.now.0 mid.limits new.limits)
        begins.machine.past_is
        (subst (λ (s : RunStart). LevelsGoOn s (past_of mid) (past_of new) (spent_by s (past_of mid) op said) new.run.now.0 mid.limits new.limits)
        begins.machine.start_is gives.levels))

    rates_then : KeepsRates new
    rates_then =
        let after = history_after (past_of old) gives.events in
        let stays = stays_uncalled (start_of old) (past_of old) gives.events
        (calm (turn_from mid.run before) (standing_of mid) gives.events here) in
        let on = subst (λ (p : List Event). LevelsGoOn (start_of old) (past_of old) p (spent_by (start_of old) (past_of old) op said) new.run.now.0 old.limits new.limits)
        grown_then levels_then in
        subst (λ (s : RunStart). HasRates s (past_of new) new.limits) (sym start_then)
        (subst (λ (p : List Event). HasRates (start_of old) p new.limits) (sym grown_then)
        (rates_on (start_of old) (past_of old) after stays (spent_by (start_of old) (past_of old) op said) new.run.now.0 old.limits
        new.limits rates on))

    -- what is handed out awaits its finding
    abbrev Unsettled : Handed → Type 0
    Unsettled = IsUnsettled (start_of old) (past_of old)

    out_then : HandsUnsettled old new
    out_then all =
        subst (All Unsettled) (sym (gives.handed ∙ ap (λ h. handed_by said ++ h.pieces) begins.handed))
        (All-append Unsettled (handed_by said) old.handed.pieces
        (subst (λ (s : RunStart). All (IsUnsettled s (past_of old)) (handed_by said)) begins.machine.start_is
        (subst (λ (p : List Event). All (IsUnsettled (start_of mid) p) (handed_by said)) begins.machine.past_is gives.out)) all)

    pub gives_performed : Performs op old before new f' said
    gives_performed = record {
      answers = record {
        start = start_then;
        now = ap (λ (m : Moment). m.0) gives.now ∙ (begins.moment ∙ ap (λ (n : ℕ). max n old.run.now.0) (sym brings));
        events = gives.events;
        grown = grown_then;
        answered = subst (IsAnswered (record { start = start_of old; now = new.run.now; faults = before }) (standing_of old) op gives.events said)
            (sym front) answered_then;
        later = omega (arith, more, gives.later);
        counts = subst (λ (n : ℕ). CountsFaults n gives.events f') more gives.counts;
        levels = levels_then;
      };
      handed = gives.handed ∙ (ap (λ h. handed_by said ++ h.pieces) begins.handed
          ∙ sym (filter_all (λ h. not (seals_handed h op && is_taken said)) (handed_by said ++ old.handed.pieces)
          (λ h. let is = unsealed h in rw is refl)));
      out = out_then;
      rates = rates_then;
    }

-- ---- what is done with the buckets

module _ {D : Type 0} (op : Operation) (Row : TurnStart → RunStanding → List Event → Said → Type 0) (old new : EngineState D)
    (f f' : ℕ) (said : Said) (events : List Event) (calm : AreCalm events) (rates : KeepsRates old)
    (start : start_of new ≡ start_of old) (now : new.run.now ≡ old.run.now)
    (grown : past_of new ≡ history_after (past_of old) events)
    (row : (from : ℕ) → from ≤ f → Row (turn_from old.run from) (standing_of old) events said)
    (counts : CountsFaults f events f')
    (handed : new.handed.pieces ≡ handed_by said ++ old.handed.pieces)
    (out : All (IsUnsettled (start_of old) (past_of old)) (handed_by said)) where
  abbrev stays_then : StaysUncalled (start_of old) (past_of old) (past_of new)
  stays_then = subst (StaysUncalled (start_of old) (past_of old)) (sym grown)
      (stays_uncalled (start_of old) (past_of old) events calm)

  -- they are left as they are
  pub gives_unspent : new.limits ≡ old.limits → spent_by (start_of old) (past_of old) op said ≡ None
      → MakesRow op Row old f new f' said
  gives_unspent limits none = record {
    start = start;
    now = now;
    events = events;
    grown = grown;
    is = row;
    later = counts_later f f' events counts;
    counts = counts;
    handed = handed;
    out = out;
    levels = subst (λ l. LevelsGoOn (start_of old) (past_of old) (past_of new) (spent_by (start_of old) (past_of old) op said) new.run.now.0 old.limits l)
        (sym limits)
        (subst (λ spent. LevelsGoOn (start_of old) (past_of old) (past_of new) spent new.run.now.0 old.limits old.limits)
        (sym none)
        (levels_stay (start_of old) (past_of old) (past_of new) stays_then new.run.now.0 old.limits rates));
  }

  -- both let bytes of a download go
  pub gives_spent : (gid : Gid) (bytes place : ℕ) → new.limits ≡ levels_taken place old.run.now.0 (Go bytes) old.limits
      → spent_by (start_of old) (past_of old) op said ≡ Some (record { gid = gid; bytes = bytes })
      → place ≡ place_in (start_of old) (past_of old) gid → place < length (downloads_of (start_of old) (past_of old))
      → MakesRow op Row old f new f' said
  gives_spent gid bytes place limits some first within = record {
    start = start;
    now = now;
    events = events;
    grown = grown;
    is = row;
    later = counts_later f f' events counts;
    counts = counts;
    handed = handed;
    out = out;
    levels = subst (λ l. LevelsGoOn (start_of old) (past_of old) (past_of new) (spent_by (start_of old) (past_of old) op said) new.run.now.0 old.limits l)
        (ap (λ (m : Moment). levels_taken place m.0 (Go bytes) old.limits) now ∙ sym limits)
        (subst (λ spent. LevelsGoOn (start_of old) (past_of old) (past_of new) spent new.run.now.0 old.limits (levels_taken place new.run.now.0 (Go bytes) old.limits))
        (sym some)
        (levels_spent (start_of old) (past_of old) (past_of new) stays_then gid bytes place new.run.now.0 old.limits rates first
        within));
  }

-- ---- rows that bring no call

calm_unread : (gid : Gid) (at : TurnStart) (s : RunStanding) → IsCalmRow (UnreadRow gid at s)
calm_unread gid at s events said is = ⊎_elim
    (λ (faulted : IsFaulted at gid events said).
    (calm_owned gid events (owned_faulted gid at events said faulted), ap lets_go faulted.1))
    (λ (starved : AnswersOnly NoMemory events said). calm_only NoMemory refl events said starved) is

calm_ungiven_by : (listed : Bool) (at : TurnStart) (s : RunStanding) (download : Download) (piece : ℕ)
    → IsCalmRow (ungiven_row at s download piece listed)
calm_ungiven_by true at s download piece events said is = calm_unread download.gid at s events said is
calm_ungiven_by false at s download piece events said is = (
  calm_owned download.gid events (owned_counted at s download piece events said is),
  unless_starved Done is.0 said refl is.2,
)

pub calm_ungiven : (gid : Gid) (piece : ℕ) (at : TurnStart) (s : RunStanding) → IsCalmRow (UngivenRow gid piece at s)
calm_ungiven gid piece at s events said is =
    calm_ungiven_by (is_listed is.0.subject) at s is.0 piece events said is.2

pub calm_unopened : (worker : ℕ) (at : TurnStart) (s : RunStanding) (events : List Event) (said : Said)
    → UnopenedRow worker at s events said → AreCalm events
calm_unopened worker at s events said is = ⊎_elim (λ (none : AnswersOnly NoMemory events said). no_events events none.0)
    (λ given. ⊎_elim
    (λ one. calm_owned one.download.gid events (owned_offer one.offer at s worker one.download events said one.row))
    (λ idle. ⊎_elim (λ held. no_events events held.2.0) (λ rest. no_events events rest.1.0) idle) given) is

-- ---- a full piece

unread_whole : (listed : Bool) (at : TurnStart) (s : RunStanding) (download : Download) (piece : ℕ) (events : List Event)
    (said : Said) → ungiven_row at s download piece listed events said
    → whole_row at s download piece listed events said
unread_whole true at s download piece events said is = inr is
unread_whole false at s download piece events said is = is

pub given_of_ungiven : (gid : Gid) (worker piece : ℕ) (at : TurnStart) (s : RunStanding) (events : List Event) (said : Said)
    → UngivenRow gid piece at s events said → GivenRow gid worker (offer.Whole piece) at s events said
given_of_ungiven gid worker piece at s events said is =
    inr (is.0, is.1, unread_whole (is_listed is.0.subject) at s is.0 piece events said is.2)

-- A run to which a mirror brings its only download fails at nothing.
use Rattle.std.proofs.Common.{◌≡◌, ⊎_elim, inl, inr, ℕ, Bool, true, false, None, List, [], ◌∷◌, ◌++◌, refl, sym, ap, ◌∙◌, subst, arith}
use Rattle.std.specs.Prelude.{◌||◌, ◌<◌, ◌-◌, ◌^◌, Contains, reverse, slice_get}
use Rattle.std.specs.List.{cons_option, filter_map}
use Rattle.std.proofs.lemmas.List.{reverse-append, reverse-reverse}
use Rattle.std.proofs.lemmas.List.Elements.{Contains-append_left, Contains-append_right}
use Rattle.blameless_mirrors.specs.Lone.{BroughtOnlyComplete, HasNoDiskFault}
use Rattle.blameless_mirrors.proofs.Marks.{behind, first_or}
use Rattle.dl_disk.specs.declared.disk.Disk.{Ghosts as DiskSays}
use Rattle.dl_kinds.specs.declared.gid.Gid.{Gid}
use Rattle.dl_kinds.specs.declared.outside.Sink.{Ghosts as SinkSays}
use Rattle.dl_kinds.specs.Counts.{Rose}
use Rattle.engine_core.specs.Engines.{past_of, start_of}
use Rattle.engine_turns.specs.Told.{RunTurn, history_of}
use Rattle.machine_core.specs.Replays.{queue_in}
use Rattle.machine_core.specs.declared.ends.End.{End}
use Rattle.machine_core.specs.declared.ends.End.TheVariants.{Complete, Disk}
use Rattle.machine_core.specs.declared.events.Event.{Event}
use Rattle.machine_core.specs.declared.events.Event.TheVariants.{Ended as EventEnded}
use Rattle.resume_core.specs.Wants.{control_name}
use Rattle.run_lifecycle.proofs.Ran.{history_is, journal_is}
use Rattle.run_lifecycle.specs.DiskCauses.{DiskCauses}
use Rattle.run_lifecycle.specs.Finishes.{EndsBy, Ran}
use Rattle.run_lifecycle.specs.FrameLaws.{RunsShowDisk}
use Rattle.run_lifecycle.specs.declared.ended.Ended.{Ended}
use Rattle.run_report.specs.Failures.{ending_by, ending_by_history, failure_by, failure_in, has_unfinished}
use Rattle.run_report.specs.declared.endings.RunEnding.TheVariants.{NoMemory, SinkFault}
use Rattle.served_runs.specs.Ends.{BroughtRunsEndWell, EndsUnfailed, OnlyCompletes, start_of_run, told_of}
use Rattle.served_runs.proofs.ToldRuns.{read_first, told_run}

-- ---- histories without failures

failed_none : (e : Event) → ((other : Gid) (how : End) → e ≡ EventEnded other how → how ≡ Complete) → failure_in e ≡ None
failed_none (EventEnded gid how) only = ap failure_by (only gid how refl)
failed_none e only = refl

no_failure : (past : List Event) → ((other : Gid) (how : End) → Contains past (EventEnded other how) → how ≡ Complete)
    → filter_map failure_in past ≡ []
no_failure [] only = refl
no_failure (e ∷ past) only =
    let here = failed_none e (λ other how is. only other how (0, omega arith, is)) in
    let rest = no_failure past (λ other how there. only other how (behind e (EventEnded other how) past there)) in
    λ i. cons_option (here i) (rest i)

unfailed : (unfinished : Bool) → EndsUnfailed (ending_by None unfinished)
unfailed true = inr (inl refl)
unfailed false = inl refl

-- what a list holds, it holds the other way round
pub in_reverse : {A : Type 0} (xs : List A) (x : A) → Contains xs x → Contains (reverse xs) x
in_reverse {A} [] x there = absurd (let within = there.1 in omega (arith, within))
in_reverse {A} (y ∷ xs) x there = ⊎_elim
    (λ (here : y ≡ x). subst (λ (l : List A). Contains l x) (sym (reverse-append (y ∷ []) xs))
    (Contains-append_right (reverse xs) (y ∷ []) x (0, omega arith, here)))
    (λ (later : Contains xs x). subst (λ (l : List A). Contains l x) (sym (reverse-append (y ∷ []) xs))
    (Contains-append_left (reverse xs) (y ∷ []) x (in_reverse xs x later)))
    (first_or y x xs there)

-- the turns of a run aren't none, for the last one stops it
pub some_turns : (turns : List RunTurn) (last : RunTurn) → (t : RunTurn) × (before : List RunTurn) × (reverse (turns ++ last ∷ []) ≡ t ∷ before)
some_turns turns last = (last, reverse turns, reverse-append turns (last ∷ []))

module _ {D O : Type 0} (says : DiskSays D) (sinks : SinkSays O) (shows : RunsShowDisk says sinks) where
  module _ (words : List (List ℕ)) (gids doors : ℕ) (disk : D) (out : O) (ended : Ended D) (out' : O)
      (ran : Ran says sinks words gids doors disk out ended out') (gid : Gid) where
    abbrev told : List RunTurn
    told = told_of says sinks ran

    abbrev past : List Event
    past = history_of told

    abbrev items : List Event
    items = ended.journal.events.items

    in_items : (e : Event) → Contains past e → Contains items e
    in_items e there =
        subst (λ (l : List Event). Contains l e) (reverse-reverse items)
        (in_reverse (reverse items) e (subst (λ (l : List Event). Contains l e) (sym (history_is ran)) there))

    in_past : (e : Event) → Contains items e → Contains past e
    in_past e there = subst (λ (l : List Event). Contains l e) (history_is ran) (in_reverse items e there)

    pub faultless : says.faults ended.disk ≡ says.faults disk → says.faults disk < 2 ^ 64 - 1 → HasNoDiskFault past
    faultless same few other count there = ⊎_elim
        (λ (none : items ≡ []).
        let empty : Contains [] (EventEnded other (Disk count)) =
        subst (λ (l : List Event). Contains l (EventEnded other (Disk count))) none (in_items (EventEnded other (Disk count)) there) in
        absurd (let within = empty.1 in omega (arith, within)))
        (λ (causes : DiskCauses says words gids doors disk ended).
        let so = causes.faults other count (in_items (EventEnded other (Disk count)) there) in
        absurd (omega (arith, so.0, so.1, same, few)))
        (shows words gids doors disk out ended out' (inr ran))

    -- no download ends but this one, by being complete
    abbrev pub OnlyEnds : Type 0
    OnlyEnds = (other : Gid) (how : End) → Contains past (EventEnded other how) → (other ≡ gid) × (how ≡ Complete)

    by_history : OnlyEnds → EndsUnfailed (ending_by_history (start_of ran.engine.state) (past_of ran.engine.state))
    by_history only =
        let none = no_failure (past_of ran.engine.state) (λ other how there.
        (only other how (subst (λ (l : List Event). Contains l (EventEnded other how)) (sym (journal_is ran) ∙ history_is ran) there)).1) in
        let unfinished = has_unfinished (queue_in (start_of ran.engine.state) (past_of ran.engine.state)) in
        subst (λ (fs : List End). EndsUnfailed (ending_by (slice_get fs 0) unfinished)) (sym none) (unfailed unfinished)

    reported : OnlyEnds → (short : Bool) → EndsBy sinks short ran.engine out out' ended.ending → EndsUnfailed ended.ending
    reported only true ends = inr (inr (inl ends.0))
    reported only false ends = ⊎_elim
        (λ (by : (ended.ending ≡ ending_by_history (start_of ran.engine.state) (past_of ran.engine.state))
        × (sinks.faults out' ≡ sinks.faults out)).
        subst EndsUnfailed (sym by.0) (by_history only))
        (λ more. ⊎_elim
        (λ (starved : (ended.ending ≡ NoMemory) × (sinks.faults out' ≡ sinks.faults out)). inr (inr (inl starved.0)))
        (λ (sunk : (ended.ending ≡ SinkFault) × Rose (sinks.faults out) (sinks.faults out')). inr (inr (inr sunk.0))) more)
        ends.ends

    pub ends_here : OnlyEnds → OnlyCompletes says sinks items gid × EndsUnfailed ended.ending
    ends_here only = (
      λ other how there. only other how (in_past (EventEnded other how) there),
      reported only (ran.begun.is_short || ran.short) ran.finishes.ends,
    )

  pub end_well : BroughtOnlyComplete says.state → BroughtRunsEndWell says sinks
  end_well complete words gids doors disk out ended out' ran gid mirror meta want payload tells is =
      let some = some_turns (ran.begun.desk.own ++ ran.stops.middle) ran.stops.last in
      ends_here words gids doors disk out ended out' ran gid
      (complete (start_of_run says sinks ran) (told_of says sinks ran) ended.disk gid mirror meta want payload
      (record { run = told_run ran tells; listed = is.listed; faithful = is.faithful }) is.of is.links is.known is.some is.only
      is.memory
      (record { absent = read_first ran tells some.0 some.1 some.2 (control_name want) ∙ is.fresh })
      (faultless words gids doors disk out ended out' ran gid is.faultless is.counts))

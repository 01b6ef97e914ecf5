-- A run that once had nothing left to do isn't unfinished.
use Rattle.std.proofs.Common.{◌≡◌, ⊎_elim, ℕ, suc, Bool, true, false, Option, Some, None, List, [], ◌∷◌, ◌++◌, length, refl, sym, ap, ◌∙◌, subst, arith}
use Rattle.std.specs.Prelude.{◌&&◌, ◌||◌, ◌==◌, Contains, not, reverse}
use Rattle.std.specs.List.{list_any}
use Rattle.std.proofs.lemmas.Bool.{eqb-true}
use Rattle.std.proofs.lemmas.List.{append_assoc, reverse-append, reverse-reverse}
use Rattle.std.proofs.lemmas.List.Elements.{Contains-append_left, Contains-append_right}
use Rattle.dl_disk.specs.declared.disk.Disk.{Ghosts as DiskSays}
use Rattle.dl_kinds.specs.declared.outside.Sink.{Ghosts as SinkSays}
use Rattle.dl_queue.specs.Lists.{QueueLists}
use Rattle.dl_queue.specs.Places.{is_ready}
use Rattle.dl_kinds.specs.Counts.{Rose}
use Rattle.engine_core.specs.Engines.{past_of, start_of}
use Rattle.engine_turns.specs.Told.{RunTurn, history_of}
use Rattle.machine_core.specs.Reads.{is_at_rest}
use Rattle.machine_core.specs.Replays.{queue_in, replay_of}
use Rattle.machine_core.specs.RunLegal.{doors_left, is_stop}
use Rattle.machine_core.specs.Starts.{RunStart}
use Rattle.machine_core.specs.declared.ends.End.{End}
use Rattle.machine_core.specs.declared.events.Event.{Event}
use Rattle.machine_core.specs.declared.events.Event.TheVariants.{Called}
use Rattle.run_lifecycle.proofs.Ran.{history_is, journal_is, may_come, start_is}
use Rattle.run_lifecycle.proofs.Turns.{reversed_cut}
use Rattle.run_lifecycle.specs.Finishes.{EndsBy, Ran}
use Rattle.run_lifecycle.specs.declared.ended.Ended.{Ended}
use Rattle.run_report.specs.Failures.{ending_by, ending_by_history, has_unfinished, last_failure}
use Rattle.run_report.specs.declared.endings.RunEnding.TheVariants.{NoMemory, SinkFault, Unfinished}
use Rattle.served_runs.specs.Ends.{FinishedAreDone, HasNoCall, IsFinishedOnce, start_of_run, told_of}
use Rattle.served_runs.proofs.Endings.{in_reverse}
use Rattle.served_runs.proofs.Finishing.{IsEmptied, events_behind, finished_so, queue_on, shut_on, stop_emptied, stop_waits}

-- ---- lists

-- a list that ends with one event, cut before others of it
pub record CutBefore (newer past front : List Event) (e : Event) : Type 0 where
  pub older : List Event
  pub past_is : past ≡ older ++ e ∷ []
  pub front_is : front ≡ newer ++ older

cut_before : (newer past front : List Event) (e x : Event) → newer ++ past ≡ front ++ e ∷ [] → Contains past x
    → CutBefore newer past front e
cut_before [] past front e x same there = record { older = front; past_is = same; front_is = refl }
cut_before (n ∷ newer) past [] e x same there =
    let none : newer ++ past ≡ [] = cc in
    let has : Contains (newer ++ past) x = Contains-append_right newer past x there in
    let empty : Contains [] x = subst (λ (l : List Event). Contains l x) none has in
    absurd (let within = empty.1 in omega (arith, within))
cut_before (n ∷ newer) past (f ∷ front) e x same there =
    let rest = cut_before newer past front e x (let t : newer ++ past ≡ front ++ e ∷ [] = cc in t) there in
    let head : n ≡ f = cc in
    record {
      older = rest.older;
      past_is = rest.past_is;
      front_is = λ i. sym head i ∷ rest.front_is i;
    }

no_call_front : (newer older : List Event) → HasNoCall (newer ++ older) → HasNoCall newer
no_call_front newer older none session call now there =
    none session call now (Contains-append_left newer older (Called session call now) there)

no_call_back : (newer older : List Event) → HasNoCall (newer ++ older) → HasNoCall older
no_call_back newer older none session call now there =
    none session call now (Contains-append_right newer older (Called session call now) there)

pub no_call_reversed : (events : List Event) → HasNoCall events → HasNoCall (reverse events)
no_call_reversed events none session call now there =
    none session call now
    (subst (λ (l : List Event). Contains l (Called session call now))
    (reverse-reverse events) (in_reverse (reverse events) (Called session call now) there))

-- ---- a queue at rest

and_first : (a b : Bool) → (a && b) ≡ true → a ≡ true
and_first true b is = refl
and_first false b is = is

and_second : (a b : Bool) → (a && b) ≡ true → b ≡ true
and_second true b is = is
and_second false b is = absurd cc

or_last : (a b c : Bool) → a ≡ false → b ≡ false → (a || b || c) ≡ true → c ≡ true
or_last false false c first second is = is
or_last true b c first second is = absurd cc
or_last false true c first second is = absurd cc

no_elements : {A : Type 0} (xs : List A) → (length xs == 0) ≡ true → xs ≡ []
no_elements [] is = refl
no_elements (x ∷ xs) is = absurd (let n : suc (length xs) ≡ 0 = eqb-true (suc (length xs)) 0 is in omega (arith, n))

never_unfinished : (failure : Option End) → ending_by failure false ≡ Unfinished → ⊥
never_unfinished None is = absurd cc
never_unfinished (Some how) is = absurd cc

none_unfinished : (q : QueueLists) → IsEmptied q → has_unfinished q ≡ false
none_unfinished q is = λ i. not (length (is.active i) == 0 && length (is.waiting i) == 0)

module _ {D O : Type 0} (says : DiskSays D) (sinks : SinkSays O) where
  module _ (words : List (List ℕ)) (gids doors : ℕ) (disk : D) (out : O) (ended : Ended D) (out' : O)
      (ran : Ran says sinks words gids doors disk out ended out') (is : IsFinishedOnce says sinks ran) where
    abbrev start : RunStart
    start = start_of_run says sinks ran

    abbrev before : List RunTurn
    before = reverse is.earlier

    abbrev past : List Event
    past = history_of before

    abbrev call : Event
    call = Called is.session is.call is.now

    abbrev newer_turns : List RunTurn
    newer_turns = reverse is.later ++ is.turn ∷ []

    told_cut : told_of says sinks ran ≡ newer_turns ++ before
    told_cut =
        ap reverse is.cut ∙ reversed_cut is.earlier is.turn is.later
        ∙ sym (append_assoc (reverse is.later) (is.turn ∷ []) before)

    abbrev newer : List Event
    newer = (events_behind newer_turns before).0

    final : history_of (told_of says sinks ran) ≡ newer ++ past
    final = ap history_of told_cut ∙ (events_behind newer_turns before).1

    cut : CutBefore newer past (reverse is.rest) call
    cut =
        cut_before newer past (reverse is.rest) call call
        (sym final ∙ (sym (history_is ran) ∙ (ap reverse is.first ∙ reverse-append (call ∷ []) is.rest))) is.begun

    no_call : HasNoCall (newer ++ cut.older)
    no_call = subst HasNoCall cut.front_is (no_call_reversed is.rest is.alone)

    waits : (queue_in start past).waiting ≡ []
    waits =
        subst (λ (p : List Event). (queue_in start p).waiting ≡ []) (sym cut.past_is)
        (queue_on start (call ∷ []) (λ (q : QueueLists). q.waiting ≡ []) (λ q none g s. stop_waits q none g s) cut.older
        (no_call_back newer cut.older no_call) is.waits)

    unshut : (replay_of start past).shut ≡ false
    unshut =
        subst (λ (p : List Event). (replay_of start p).shut ≡ false) (sym cut.past_is)
        (shut_on start (call ∷ []) cut.older (no_call_back newer cut.older no_call) is.unshut)

    at_rest : is_at_rest (queue_in start past) ≡ true
    at_rest =
        and_second (doors_left start past == 0) (is_at_rest (queue_in start past))
        (or_last (replay_of start past).shut (list_any is_stop past)
        (doors_left start past == 0 && is_at_rest (queue_in start past)) unshut is.unstopped
        (finished_so start before is.turn (may_come ran is.earlier is.turn is.later is.cut) is.said))

    emptied : IsEmptied (queue_in start past)
    emptied = record {
      active = no_elements (queue_in start past).active
          (and_first (length (queue_in start past).active == 0) (not (list_any is_ready (queue_in start past).waiting)) at_rest);
      waiting = waits;
    }

    at_last : IsEmptied (queue_in start (past_of ran.engine.state))
    at_last =
        subst (λ (p : List Event). IsEmptied (queue_in start p)) (sym final ∙ (sym (history_is ran) ∙ journal_is ran))
        (queue_on start past IsEmptied (λ q none g s. stop_emptied q none g s) newer (no_call_front newer cut.older no_call) emptied)

    by_history : ending_by_history (start_of ran.engine.state) (past_of ran.engine.state) ≡ Unfinished → ⊥
    by_history unfinished =
        let past_last = past_of ran.engine.state in
        let none : has_unfinished (queue_in (start_of ran.engine.state) past_last) ≡ false =
        ap (λ (s : RunStart). has_unfinished (queue_in s past_last)) (start_is ran) ∙ none_unfinished (queue_in start past_last) at_last in
        never_unfinished (last_failure past_last)
        (subst (λ (b : Bool). ending_by (last_failure past_last) b ≡ Unfinished) none unfinished)

    reported : (short : Bool) → EndsBy sinks short ran.engine out out' ended.ending → ended.ending ≡ Unfinished → ⊥
    reported true ends unfinished = absurd (let never : NoMemory ≡ Unfinished = sym ends.0 ∙ unfinished in cc)
    reported false ends unfinished = ⊎_elim
        (λ (by : (ended.ending ≡ ending_by_history (start_of ran.engine.state) (past_of ran.engine.state))
        × (sinks.faults out' ≡ sinks.faults out)).
        by_history (sym by.0 ∙ unfinished))
        (λ more. ⊎_elim
        (λ (starved : (ended.ending ≡ NoMemory) × (sinks.faults out' ≡ sinks.faults out)).
        absurd (let never : NoMemory ≡ Unfinished = sym starved.0 ∙ unfinished in cc))
        (λ (sunk : (ended.ending ≡ SinkFault) × Rose (sinks.faults out) (sinks.faults out')).
        absurd (let never : SinkFault ≡ Unfinished = sym sunk.0 ∙ unfinished in cc)) more)
        ends.ends

  pub are_done : FinishedAreDone says sinks
  are_done words gids doors disk out ended out' ran is =
      reported words gids doors disk out ended out' ran is (ran.begun.is_short || ran.short) ran.finishes.ends

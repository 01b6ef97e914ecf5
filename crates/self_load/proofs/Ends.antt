-- The ends of the one download of a run, and what its queue has behind them.
use Rattle.std.proofs.Common.{◌≡◌, ◌⊎◌, ⊎_elim, inl, inr, ℕ, zero, suc, ◌-◌, Bool, true, false, List, [], ◌∷◌, ◌++◌, Option, Some, None, eq-eqb, length, refl, sym, ap, ◌∙◌, subst, arith, slice_get}
use Rattle.std.specs.Prelude.{◌||◌, ◌==◌, ◌&&◌, Contains, not}
use Rattle.std.specs.List.{filter_map}
use Rattle.std.proofs.lemmas.Bool.{false≢true}
use Rattle.std.proofs.lemmas.List.Elements.{Contains-append_cases, Contains-append_left, Contains-append_right, Contains-push_cases}
use Rattle.served_runs.proofs.Finishing.{IsEmptied}
use Rattle.served_runs.specs.Ends.{HasNoCall}
use Rattle.dl_history.specs.OwnEvents.{OwnEvent, Halts}
use Rattle.dl_history.specs.PayloadParts.{is_ended, is_ending}
use Rattle.dl_kinds.specs.declared.gid.Gid.{Gid}
use Rattle.dl_kinds.specs.declared.status.Status.{Status}
use Rattle.dl_kinds.specs.declared.status.Status.TheVariants as status
use Rattle.dl_queue.specs.Calls.{QueueCall, Stop, after}
use Rattle.dl_queue.specs.Lists.{QueueLists}
use Rattle.dl_queue.specs.Places.{is_gid}
use Rattle.dl_queue.specs.Rising.{left_waiting, risen}
use Rattle.machine_core.specs.OwnParts.{own_of}
use Rattle.machine_core.specs.Replays.{queue_in, stop_of}
use Rattle.machine_core.specs.RunLegal.{IsLegal}
use Rattle.machine_core.specs.Starts.{RunStart}
use Rattle.machine_core.specs.declared.ends.End.{End}
use Rattle.machine_core.specs.declared.ends.End.TheVariants as end
use Rattle.machine_core.specs.declared.events.Event.{Event}
use Rattle.machine_core.specs.declared.events.Event.TheVariants as event
use Rattle.machine_core.proofs.Steps.{own_here}
use Rattle.run_report.specs.Failures.{ending_by, ending_by_history, failure_in, has_unfinished, last_failure}
use Rattle.run_report.specs.declared.endings.RunEnding.TheVariants.{Done}

-- ---- members

pub none_in : {P : Type 0} (e : Event) → Contains [] e → P
none_in e there = absurd (let within = there.1 in omega (arith, within))

pub first_or_later : (u : Event) (es : List Event) (e : Event) → Contains (u ∷ es) e → (u ≡ e) ⊎ Contains es e
first_or_later u es e there = ⊎_elim
    (λ (here : Contains (u ∷ []) e).
    ⊎_elim (λ (none : Contains [] e). none_in e none) (λ (same : u ≡ e). inl same) (Contains-push_cases [] u e here))
    (λ (later : Contains es e). inr later) (Contains-append_cases (u ∷ []) es e there)

pub later_in : (u : Event) (es : List Event) (e : Event) → Contains es e → Contains (u ∷ es) e
later_in u es e there = Contains-append_right (u ∷ []) es e there

-- ---- a download ends once

ended_on : (more own : List OwnEvent) → is_ended own ≡ true → is_ended (more ++ own) ≡ true
ended_on [] own is = is
ended_on (x ∷ more) own is = by (is_ending x) (ended_on more own is)
  where
    by : (b : Bool) → is_ended (more ++ own) ≡ true → (b || is_ended (more ++ own)) ≡ true
    by true rest = refl
    by false rest = rest

abbrev pub OwnGrows : Type 0
OwnGrows = (start : RunStart) (e : Event) (past : List Event) (gid : Gid)
    → (more : List OwnEvent) × (own_of start (e ∷ past) gid ≡ more ++ own_of start past gid)

module _ (grows : OwnGrows) (start : RunStart) (gid : Gid) where
  ended_in : (past : List Event) (how : End) → Contains past (event.Ended gid how)
      → is_ended (own_of start past gid) ≡ true
  ended_in [] how there = none_in (event.Ended gid how) there
  ended_in (e ∷ past) how there = ⊎_elim
      (λ (same : e ≡ event.Ended gid how).
      subst (λ (x : Event). is_ended (own_of start (x ∷ past) gid) ≡ true) (sym same)
      (ap is_ended (own_here gid (Halts true) (own_of start past gid))))
      (λ (later : Contains past (event.Ended gid how)).
      let grown = grows start e past gid in
      subst (λ (l : List OwnEvent). is_ended l ≡ true) (sym grown.1)
      (ended_on grown.0 (own_of start past gid) (ended_in past how later)))
      (first_or_later e past (event.Ended gid how) there)

  ended_again : {P : Type 0} (past : List Event) (e : Event) (how other : End) → IsLegal start (e ∷ past)
      → e ≡ event.Ended gid how → Contains past (event.Ended gid other) → P
  ended_again past e how other legal is there =
      let may : IsLegal start (event.Ended gid how ∷ past) = subst (λ (x : Event). IsLegal start (x ∷ past)) is legal in
      absurd (false≢true (sym (may.1.own.may refl) ∙ ended_in past other there))

  pub ends_once : (past : List Event) → IsLegal start past → (a b : End) → Contains past (event.Ended gid a)
      → Contains past (event.Ended gid b) → a ≡ b
  ends_once [] legal a b one other = none_in (event.Ended gid a) one
  ends_once (e ∷ past) legal a b one other = ⊎_elim
      (λ (first : e ≡ event.Ended gid a). ⊎_elim
      (λ (second : e ≡ event.Ended gid b). same_end a b (sym first ∙ second))
      (λ (later : Contains past (event.Ended gid b)). ended_again past e a b legal first later)
      (first_or_later e past (event.Ended gid b) other))
      (λ (earlier : Contains past (event.Ended gid a)). ⊎_elim
      (λ (second : e ≡ event.Ended gid b). ended_again past e b a legal second earlier)
      (λ (later : Contains past (event.Ended gid b)). ends_once past legal.0 a b earlier later)
      (first_or_later e past (event.Ended gid b) other))
      (first_or_later e past (event.Ended gid a) one)
    where
      same_end : (a b : End) → event.Ended gid a ≡ event.Ended gid b → a ≡ b
      same_end a b is = cc

-- ---- failures

-- each end among the events is the one of a download that is complete
abbrev pub AllComplete : List Event → Type 0
AllComplete events = (gid : Gid) (how : End) → Contains events (event.Ended gid how) → how ≡ end.Complete

no_failures : (events : List Event) → AllComplete events → filter_map failure_in events ≡ []
no_failures [] are = refl
no_failures (event.Ended gid end.Complete ∷ events) are =
    no_failures events (λ g how there. are g how (later_in (event.Ended gid end.Complete) events
    (event.Ended g how) there))
no_failures (event.Ended gid how ∷ events) are = absurd (let is = are gid how (0, omega arith, refl) in cc)
no_failures (e ∷ events) are =
    no_failures events (λ g how there. are g how (later_in e events (event.Ended g how) there))

pub failed_none : (events : List Event) → AllComplete events → last_failure events ≡ None
failed_none events are = ap (λ (es : List End). slice_get es 0) (no_failures events are)

-- an error that ended a download stands among the failures
failure_found : (events : List Event) (gid : Gid) (how : End) → filter_map failure_in events ≡ []
    → Contains events (event.Ended gid how) → how ≡ end.Complete
failure_found [] gid how none there = none_in (event.Ended gid how) there
failure_found (event.Ended g end.Complete ∷ events) gid how none there = ⊎_elim
    (λ (same : event.Ended g end.Complete ≡ event.Ended gid how). cc)
    (λ (later : Contains events (event.Ended gid how)). failure_found events gid how none later)
    (first_or_later (event.Ended g end.Complete) events (event.Ended gid how) there)
failure_found (event.Ended g other ∷ events) gid how none there = absurd cc
failure_found (e ∷ events) gid how none there = ⊎_elim
    (λ (same : e ≡ event.Ended gid how). absurd cc)
    (λ (later : Contains events (event.Ended gid how)). failure_found events gid how none later)
    (first_or_later e events (event.Ended gid how) there)

no_last : (failures : List End) → slice_get failures 0 ≡ None → failures ≡ []
no_last [] is = refl
no_last (how ∷ failures) is = absurd cc

pub done_complete : (events : List Event) (gid : Gid) (how : End) → last_failure events ≡ None
    → Contains events (event.Ended gid how) → how ≡ end.Complete
done_complete events gid how none there =
    failure_found events gid how (no_last (filter_map failure_in events) none) there

-- what a run that is done shows
pub done_shows : (failure : Option End) (unfinished : Bool) → ending_by failure unfinished ≡ Done
    → (failure ≡ None) × (unfinished ≡ false)
done_shows None false is = (refl, refl)
done_shows None true is = absurd cc
done_shows (Some how) unfinished is = absurd cc

-- ---- the queue

-- this download alone is active, and none waits
pub record IsOneActive (gid : Gid) (q : QueueLists) : Type 0 where
  pub active : q.active ≡ gid ∷ []
  pub waiting : q.waiting ≡ []

risen_none : (free : ℕ) → risen free [] ≡ []
risen_none zero = refl
risen_none (suc n) = refl

left_none : (free : ℕ) → left_waiting free [] ≡ []
left_none zero = refl
left_none (suc n) = refl

stop_one : (q : QueueLists) (gid : Gid) (s : Status) → IsOneActive gid q → IsEmptied (after q (Stop gid s))
stop_one q gid s is =
    let r : QueueLists =
    record { limit = q.limit; active = gid ∷ []; waiting = []; stopped = q.stopped; added = q.added } in
    let same : q ≡ r = λ i. record {
      limit = q.limit;
      active = is.active i;
      waiting = is.waiting i;
      stopped = q.stopped;
      added = q.added;
    } in
    let its : is_gid gid gid ≡ true = eq-eqb gid.0 gid.0 refl in
    let active : (after r (Stop gid s)).active ≡ [] = rw (eq-eqb gid.0 gid.0 refl, its) (risen_none (q.limit - 0)) in
    let waiting : (after r (Stop gid s)).waiting ≡ [] = rw (eq-eqb gid.0 gid.0 refl, its) (left_none (q.limit - 0)) in
    record {
      active = ap (λ (x : QueueLists). (after x (Stop gid s)).active) same ∙ active;
      waiting = ap (λ (x : QueueLists). (after x (Stop gid s)).waiting) same ∙ waiting;
    }

-- each end is of this download
abbrev pub EndsOf : Gid → List Event → Type 0
EndsOf gid events = (other : Gid) (how : End) → Contains events (event.Ended other how) → other ≡ gid

stop_is : (g : Gid) (how : End) → (s : Status) × (stop_of g how ≡ Stop g s)
stop_is g end.Complete = (status.Complete, refl)
stop_is g (end.Dead piece mark) = (status.Failed, refl)
stop_is g (end.Disk count) = (status.Failed, refl)
stop_is g (end.Exists len) = (status.Failed, refl)
stop_is g (end.PieceLength have want) = (status.Failed, refl)
stop_is g (end.Length have want) = (status.Failed, refl)
stop_is g end.InfoHash = (status.Failed, refl)
stop_is g (end.Unreadable at) = (status.Failed, refl)
stop_is g (end.TooLarge total) = (status.Failed, refl)
stop_is g (end.SameFile other) = (status.Failed, refl)
stop_is g (end.SameHash other) = (status.Failed, refl)
stop_is g end.Checksum = (status.Failed, refl)

-- behind an end of the download its queue is empty; without one it is as it was
abbrev pub HasEndOrNot : Gid → List Event → QueueLists → Type 0
HasEndOrNot gid events q =
    (((how : End) × Contains events (event.Ended gid how)) × IsEmptied q)
    ⊎ (((other : Gid) (how : End) → ¬ Contains events (event.Ended other how)) × IsOneActive gid q)

module _ (stays : (q : QueueLists) → IsEmptied q → (g : Gid) (s : Status) → IsEmptied (after q (Stop g s)))
    (start : RunStart) (gid : Gid) (base : List Event) (one : IsOneActive gid (queue_in start base)) where
  abbrev queue : List Event → QueueLists
  queue newer = queue_in start (newer ++ base)

  pub by_ends : (newer : List Event) → HasNoCall newer → EndsOf gid newer → HasEndOrNot gid newer (queue newer)
  by_ends [] none its = inr (λ other how there. none_in (event.Ended other how) there, one)
  by_ends (event.Called session call now ∷ newer) none its = absurd (none session call now (0, omega arith, refl))
  by_ends (event.Ended g how ∷ newer) none its =
      let same : g ≡ gid = its g how (0, omega arith, refl) in
      let stop = stop_is gid how in
      inl (
        (how, (0, omega arith, ap (λ (x : Gid). event.Ended x how) same)),
        subst (λ (x : Gid). IsEmptied (queue (event.Ended x how ∷ newer))) (sym same)
            (subst (λ (c : QueueCall). IsEmptied (after (queue newer) c)) (sym stop.1) (⊎_elim
            (λ (emptied : ((other : End) × Contains newer (event.Ended gid other)) × IsEmptied (queue newer)).
            stays (queue newer) emptied.1 gid stop.0)
            (λ (active : ((other : Gid) (end_is : End) → ¬ Contains newer
            (event.Ended other end_is)) × IsOneActive gid (queue newer)).
            stop_one (queue newer) gid stop.0 active.1)
            (by_ends newer (λ session call now there. none session call now (later_in (event.Ended g how) newer
            (event.Called session call now) there))
            (λ other end_is there. its other end_is (later_in (event.Ended g how) newer
            (event.Ended other end_is) there))))),
      )
  by_ends (e ∷ newer) none its =
      ⊎_elim
      (λ (emptied : ((other : End) × Contains newer (event.Ended gid other)) × IsEmptied (queue newer)).
      inl ((emptied.0.0, later_in e newer (event.Ended gid emptied.0.0) emptied.0.1), emptied.1))
      (λ (active : ((other : Gid) (end_is : End) → ¬ Contains newer (event.Ended other end_is)) × IsOneActive gid
      (queue newer)).
      inr (
        λ other how there. ⊎_elim
            (λ (same : e ≡ event.Ended other how). absurd cc)
            (λ (later : Contains newer (event.Ended other how)). active.0 other how later)
            (first_or_later e newer (event.Ended other how) there),
        active.1,
      ))
      (by_ends newer (λ session call now there. none session call now (later_in e newer
      (event.Called session call now) there))
      (λ other end_is there. its other end_is (later_in e newer (event.Ended other end_is) there)))

  -- ---- the ending

  module _ (grows : OwnGrows) (newer : List Event) (none : HasNoCall newer) (its : EndsOf gid (newer ++ base))
      (first : (other : Gid) (how : End) → ¬ Contains base (event.Ended other how))
      (legal : IsLegal start (newer ++ base)) where
    abbrev past : List Event
    past = newer ++ base

    its_newer : EndsOf gid newer
    its_newer other how there = its other how (Contains-append_left newer base (event.Ended other how) there)

    to_newer : (other : Gid) (how : End) → Contains past (event.Ended other how) → Contains newer
        (event.Ended other how)
    to_newer other how there = ⊎_elim (λ (is : Contains newer (event.Ended other how)). is)
        (λ (is : Contains base (event.Ended other how)). absurd (first other how is))
        (Contains-append_cases newer base (event.Ended other how) there)

    -- a run that is done has the download's Complete
    pub done_has : ending_by_history start past ≡ Done → Contains past (event.Ended gid end.Complete)
    done_has is =
        let shows = done_shows (last_failure past) (has_unfinished (queue newer)) is in
        ⊎_elim
        (λ (has : ((how : End) × Contains newer (event.Ended gid how)) × IsEmptied (queue newer)).
        let there = Contains-append_left newer base (event.Ended gid has.0.0) has.0.1 in
        subst (λ (how : End). Contains past (event.Ended gid how)) (done_complete past gid has.0.0 shows.0 there) there)
        (λ (hasnt : ((other : Gid) (how : End) → ¬ Contains newer (event.Ended other how)) × IsOneActive gid
        (queue newer)).
        let busy : has_unfinished (queue newer) ≡ true =
        ap (λ (a : List Gid). not (length a == 0 && length (queue newer).waiting == 0)) hasnt.1.active in
        absurd (false≢true (sym shows.1 ∙ busy)))
        (by_ends newer none its_newer)

    -- .. and one with a Complete is done, where it ends as its history tells
    pub has_done : (other : Gid) → Contains past (event.Ended other end.Complete) → ending_by_history start past ≡ Done
    has_done other there =
        let same = its other end.Complete there in
        let here : Contains past (event.Ended gid end.Complete) =
        subst (λ (g : Gid). Contains past (event.Ended g end.Complete)) same there in
        let all : AllComplete past = λ g how is.
        ends_once grows start gid past legal how end.Complete
        (subst (λ (x : Gid). Contains past (event.Ended x how)) (its g how is) is) here in
        let idle : has_unfinished (queue newer) ≡ false = ⊎_elim
        (λ (has : ((how : End) × Contains newer (event.Ended gid how)) × IsEmptied (queue newer)).
        λ i. not (length (has.1.active i) == 0 && length (has.1.waiting i) == 0))
        (λ (hasnt : ((o : Gid) (how : End) → ¬ Contains newer (event.Ended o how)) × IsOneActive gid (queue newer)).
        absurd (hasnt.0 gid end.Complete (to_newer gid end.Complete here)))
        (by_ends newer none its_newer) in
        λ i. ending_by (failed_none past all i) (idle i)

-- The doors of a run over links left before its stop.
use Rattle.std.proofs.Common.{◌≡◌, ◌≢◌, inl, inr, ⊎_elim, ℕ, zero, suc, Bool, true, false, IsTrue, Option, Some, None, List, [], ◌∷◌, ◌++◌, Result, Ok, Err, cond, refl, sym, ap, ◌∙◌, subst, arith}
use Rattle.std.specs.Prelude.{◌⊎◌, Contains, reverse}
use Rattle.std.proofs.lemmas.Bool.{false≢true}
use Rattle.std.proofs.lemmas.List.{append-nil, append_assoc, reverse-append, reverse-reverse}
use Rattle.std.proofs.lemmas.List.Elements.{Contains-append_cases, Contains-append_right, Contains-push_cases}
use Rattle.std.proofs.lemmas.List.Sums.{sum_by-append}
use Rattle.conn_worker.specs.declared.ends.Spent.{Spent}
use Rattle.conn_worker.specs.declared.ends.WorkEnd.{WorkEnd}
use Rattle.conn_worker.specs.declared.ends.WorkEnd.TheVariants as end
use Rattle.dl_disk.specs.declared.disk.Disk.{Ghosts as DiskSays}
use Rattle.dl_kinds.specs.declared.outside.Sink.{Ghosts as SinkSays}
use Rattle.dl_kinds.specs.declared.runs.Moment.{Moment}
use Rattle.engine_turns.specs.RunTurns.{is_nearly_full}
use Rattle.engine_turns.specs.Told.{RunTurn, history_of}
use Rattle.engine_turns.specs.TurnLaws.{TurnsAppend}
use Rattle.engine_turns.specs.declared.operations.Operation.TheVariants as operation
use Rattle.link_source.specs.declared.Links.{Ghosts as LinkSays}
use Rattle.machine_core.specs.RunLegal.{doors_left, is_left}
use Rattle.machine_core.specs.Starts.{RunStart}
use Rattle.machine_core.specs.declared.calls.Call.{Call}
use Rattle.machine_core.specs.declared.events.Event.{Event}
use Rattle.machine_core.specs.declared.events.Event.TheVariants.{Stopped}
use Rattle.turn_desk.specs.Turns.{events_of}
use Rattle.run_lifecycle.proofs.Ran as ran_facts
use Rattle.run_lifecycle.proofs.Turns.{BroughtBy, brought_by, events_on}
use Rattle.run_lifecycle.specs.Begins.{IsOwnCall}
use Rattle.run_lifecycle.specs.Histories.{StopsLast}
use Rattle.run_lifecycle.specs.declared.ended.Ended.{Ended}
use Rattle.run_report.specs.declared.endings.RunEnding.TheVariants.{NoMemory}
use Rattle.served_runs.specs.Completes.{IsCutShort, WasCutShort}
use Rattle.served_runs.specs.Over.{IsOfWorker, IsWork, RanOverLinks}
use Rattle.served_runs.proofs.Fed.{not_short}
use Rattle.served_runs.proofs.TurnLists.{here, none_there}
use Rattle.served_runs.proofs.Unfinished.{StopsRunAt, stopped_by}
use Rattle.served_runs.proofs.WorkEnds.{CameFinished, worked_work}
use Rattle.served_runs.proofs.Workers.{one_came}

-- ---- lists of events

-- what an event stands behind, without being in it, stands in front of it
front_of : (early front rest late : List Event) → (Contains early Stopped → ⊥) → front ++ Stopped ∷ rest ≡ early ++ late
    → (more : List Event) × (front ≡ early ++ more)
front_of [] front rest late none is = (front, refl)
front_of (e ∷ early) [] rest late none is =
    let same : Stopped ≡ e = cc in
    absurd (none (subst (λ (x : Event). Contains (x ∷ early) Stopped) same (0, omega arith, refl)))
front_of (e ∷ early) (f ∷ front) rest late none is =
    let same : f ≡ e = cc in
    let others : front ++ Stopped ∷ rest ≡ early ++ late = cc in
    let behind = front_of early front rest late
    (λ there. none (Contains-append_right (e ∷ []) early Stopped there)) others in
    (behind.0, λ i. same i ∷ behind.1 i)

-- where all doors left they stay away
still_left : (start : RunStart) (newer past : List Event) → doors_left start past ≡ 0 → doors_left start (newer ++ past) ≡ 0
still_left start newer past none =
    let both = sum_by-append (λ (e : Event). cond (is_left e) 1 0) newer past in omega (arith, both, none)

-- ---- turns

-- a worker was cut short by a full journal, or by the limit of its turns
cut_by : (limited : Bool) (events : List Event) (came : Result WorkEnd Spent) → IsCutShort limited events came
    → (is_nearly_full events ≡ true) ⊎ IsTrue limited
cut_by limited events (Ok end.JournalFull) why = inl why
cut_by limited events (Ok end.Finished) why = absurd why
cut_by limited events (Ok end.NoMemory) why = absurd why
cut_by limited events (Err spent) why = inr why

-- the line's own call is no stop
own_stops_not : {P : Type 0} (call : Option Call) (turns : List RunTurn) (short : Bool) (t : RunTurn)
    → IsOwnCall call turns short → Contains turns t → (now : Moment) → t.op ≡ operation.Stop now → P
own_stops_not None turns short t is there now stops =
    none_there t (subst (λ (ts : List RunTurn). Contains ts t) is.0 there)
own_stops_not (Some call) turns short t is there now stops = ⊎_elim (λ (none : Contains [] t). none_there t none)
    (λ (same : is.0 ≡ t). absurd (let never : operation.Call 0 call (record { 0 = 0 }) ≡ operation.Stop now =
    sym is.2 ∙ (ap (λ (v : RunTurn). v.op) same ∙ stops) in cc))
    (Contains-push_cases [] is.0 t (subst (λ (ts : List RunTurn). Contains ts t) is.1 there))

module _ {D O L K : Type 0} {says : DiskSays D} {sinks : SinkSays O} {limited : Bool} {links : LinkSays L}
    {words : List (List ℕ)} {gids doors : ℕ} {disk : D} {olds : List (L × K)} {out : O} {ended : Ended D}
    {news : List (L × K)} {out' : O}
    (it : RanOverLinks says sinks limited links words gids doors disk olds out ended news out') where
  abbrev items : List Event
  items = ended.journal.events.items

  abbrev start : RunStart
  start = ran_facts.start it.ran

  abbrev own : List RunTurn
  own = it.ran.begun.desk.own

  abbrev middle : List RunTurn
  middle = it.ran.stops.middle

  abbrev last : RunTurn
  last = it.ran.stops.last

  -- all turns but the last one
  abbrev front : List RunTurn
  front = own ++ middle

  module _ (well : ended.ending ≢ NoMemory) (room : is_nearly_full items ≡ false) (some : start.doors ≡ 0 → ⊥) where
    -- no worker's work ends by a stop
    not_of_worker : (t : RunTurn) → IsOfWorker limited links it.ran olds news t → (now : Moment) → t.op ≡ operation.Stop now → ⊥
    not_of_worker t of now op = ⊎_elim
        (λ (came : CameFinished of.at.own.its.worked of.at.own.its.stop).
        let mine = of.at.own in
        let inside = subst (λ (ts : List RunTurn). Contains ts t)
        (ap (λ (ts : List RunTurn). mine.its.worked ++ ts) came.no_stop ∙ append-nil mine.its.worked) of.there in
        absurd (subst IsWork op (worked_work links of.place mine.from of.at.old.0 mine.to of.at.new.0 mine.came mine.its t inside)))
        (λ (cut : WasCutShort limited links start olds ended news). ⊎_elim
        (λ (full : is_nearly_full items ≡ true). false≢true (sym room ∙ full))
        (λ (is_limited : IsTrue limited). some (it.over.doorless is_limited))
        (cut_by limited items cut.came cut.why))
        (one_came limited links it.ran olds news (not_short it well) it.over.works of.place of.at)

    not_stopped : (by : BroughtBy front Stopped) → StopsRunAt by.turn.op → ⊥
    not_stopped by stops = ⊎_elim
        (λ (first : Contains own by.turn).
        own_stops_not it.ran.begins.call own it.ran.begun.is_short by.turn it.ran.begins.own first stops.0 stops.1)
        (λ (between : Contains middle by.turn).
        not_of_worker by.turn (it.over.stops by.turn between stops.0 stops.1) stops.0 stops.1)
        (Contains-append_cases own middle by.turn (subst (λ (ts : List RunTurn). Contains ts by.turn) (sym by.cut)
        (Contains-append_right by.earlier (by.turn ∷ by.later) by.turn (here by.turn by.later))))

    -- nothing before the last turn stops the run
    unstopped : Contains (events_of front) Stopped → ⊥
    unstopped there =
        let by = brought_by front Stopped there in
        not_stopped by (stopped_by start (reverse by.earlier) by.turn
        (ran_facts.may_come it.ran by.earlier by.turn (by.later ++ last ∷ [])
        (ap (λ (ts : List RunTurn). ts ++ last ∷ []) by.cut ∙ append_assoc by.earlier (by.turn ∷ by.later) (last ∷ []))) by.there)

    left_first : TurnsAppend → StopsLast start items
    left_first append before rest cut =
        let past = history_of (reverse front) in
        let more = front_of (events_of front) before rest (events_of (last ∷ [])) unstopped
        (sym cut ∙ (ran_facts.items_are it.ran ∙ events_on front (last ∷ []))) in
        let back : reverse (events_of front) ≡ past = ap reverse (sym (append front)) ∙ reverse-reverse past in
        subst (λ (newest : List Event). doors_left start newest ≡ 0)
        (sym (ap reverse more.1 ∙ (reverse-append (events_of front) more.0
        ∙ ap (λ (es : List Event). reverse more.0 ++ es) back)))
        (still_left start (reverse more.0) past (it.over.left (not_short it well)))

  -- a run without doors has none at all
  none_left : start.doors ≡ 0 → (past : List Event) → doors_left start past ≡ 0
  none_left none past = omega (arith, none)

  pub stops_last : TurnsAppend → ended.ending ≢ NoMemory → is_nearly_full items ≡ false → StopsLast start items
  stops_last append well room before rest cut = by start.doors refl
    where
      by : (doors : ℕ) → start.doors ≡ doors → doors_left start (reverse before) ≡ 0
      by zero none = none_left none (reverse before)
      by (suc n) some =
          left_first well room (λ none. let never : suc n ≡ 0 = sym some ∙ none in absurd cc) append before rest cut

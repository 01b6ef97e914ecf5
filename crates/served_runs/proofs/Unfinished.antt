-- Why a run was left unfinished.
use Rattle.std.proofs.Common.{◌≡◌, ◌≤◌, inl, inr, ⊎_elim, ℕ, zero, suc, Bool, true, false, Option, Some, None, List, [], ◌∷◌, ◌++◌, length, refl, sym, ap, ◌∙◌, subst, arith}
use Rattle.std.specs.Prelude.{◌⊎◌, ◌&&◌, ◌||◌, ◌==◌, Contains, box_value, if◌then◌else◌, reverse}
use Rattle.std.specs.List.{list_any}
use Rattle.std.proofs.lemmas.Bool.{eqb-true, false≢true}
use Rattle.std.proofs.lemmas.List.{append-nil, append_assoc}
use Rattle.std.proofs.lemmas.List.Elements.{All-contains, Contains-append_cases, Contains-append_left, Contains-append_right, Contains-push_cases}
use Rattle.blameless_mirrors.proofs.Marks.{behind as event_behind}
use Rattle.dl_disk.specs.declared.disk.Disk.{Ghosts as DiskSays}
use Rattle.dl_kinds.specs.declared.gid.Gid.{Gid}
use Rattle.dl_kinds.specs.declared.outside.Sink.{Ghosts as SinkSays}
use Rattle.dl_kinds.specs.declared.runs.Moment.{Moment}
use Rattle.dl_queue.specs.Calls.{QueueCall, ChangePosition, Forget, Pause, Remove, Unpause}
use Rattle.dl_queue.specs.Lists.{QueueLists}
use Rattle.engine_turns.specs.CallRows.{left_events}
use Rattle.engine_turns.specs.RunTurns.{IsAnswered, MayComeAfter, OperationRow, answer_before, turn_start}
use Rattle.engine_turns.specs.Phases.{TurnStart}
use Rattle.engine_turns.specs.Standings.{RunStanding, standing_after}
use Rattle.engine_turns.specs.Told.{RunTurn, history_of}
use Rattle.engine_turns.specs.TurnLaws.{TurnsAppend}
use Rattle.engine_turns.specs.declared.operations.Operation.{Operation}
use Rattle.engine_turns.specs.declared.operations.Operation.TheVariants as operation
use Rattle.engine_turns.specs.declared.operations.Said.{Said}
use Rattle.engine_turns.specs.declared.operations.Said.TheVariants.{Finished}
use Rattle.option_set.specs.declared.setting.Assigned.{Assigned}
use Rattle.command_call.specs.declared.refusals.SourceErr.{SourceErr}
use Rattle.command_call.specs.declared.refusals.SourceErr.TheVariants.{Fault, Meta as MetaError, Mirrors, Missing, NoMemory as Starved, TooLarge}
use Rattle.link_source.specs.declared.Links.{Ghosts as LinkSays}
use Rattle.machine_core.specs.Reads.{is_at_rest}
use Rattle.machine_core.specs.Replays.{Replay, after_call, keyed_gid, queue_in, replay_of, with_call_of, with_download}
use Rattle.machine_core.specs.RunLegal.{doors_left, is_stop}
use Rattle.machine_core.specs.Starts.{Listed, RunStart, Subject, Unlisted}
use Rattle.machine_core.specs.declared.calls.Call.{Call}
use Rattle.machine_core.specs.declared.calls.Call.TheVariants as call
use Rattle.machine_core.specs.declared.events.Event.{Event}
use Rattle.machine_core.specs.declared.events.Event.TheVariants.{Called, Left, Stopped}
use Rattle.turn_desk.specs.Turns.{events_of}
use Rattle.run_lifecycle.proofs.Ran as ran_facts
use Rattle.run_lifecycle.proofs.Whole.{stands_in_front}
use Rattle.run_lifecycle.proofs.Turns.{BroughtBy, CutAt, brought_by, cut_at, events_on}
use Rattle.run_lifecycle.specs.Begins.{IsOwnCall, LacksCall, RefusesWords, start_of_line}
use Rattle.run_lifecycle.specs.Ends.{ending_of_source}
use Rattle.run_lifecycle.specs.Finishes.{NeverBegan, PrintsRefusal, Ran}
use Rattle.run_lifecycle.specs.Histories.{StandsFirst}
use Rattle.run_lifecycle.specs.Stops.{all_turns}
use Rattle.run_lifecycle.specs.declared.ended.Ended.{Ended}
use Rattle.run_report.specs.declared.endings.RunEnding.{RunEnding}
use Rattle.run_report.specs.declared.endings.RunEnding.TheVariants.{NoMeaning, NoMemory, Unfinished}
use Rattle.served_runs.specs.Completes.{WasCutShort}
use Rattle.served_runs.specs.Over.{IsOfWorker, IsRunOver, IsWork, RanOverLinks, WorkedOver}
use Rattle.served_runs.specs.Unfinished.{IsLeftPaused, ShowsUnfinished, WasShutDown}
use Rattle.served_runs.proofs.Endings.{in_reverse}
use Rattle.served_runs.proofs.Finishing.{finished_so}
use Rattle.served_runs.proofs.TurnCalls.{AreOfOnes, IsOfOne, no_events, row_calm, saves_of_ones}
use Rattle.served_runs.proofs.TurnLists.{here as turn_at, none_there}
use Rattle.served_runs.proofs.Workers.{ends_so, one_came}
use Rattle.served_runs.proofs.WorkEnds.{CameFinished, finished_by, worked_work}

-- ---- truth values

and_first : (a b : Bool) → (a && b) ≡ true → a ≡ true
and_first true b is = refl
and_first false b is = is

and_second : (a b : Bool) → (a && b) ≡ true → b ≡ true
and_second true b is = is
and_second false b is = absurd cc

one_of : (a b c : Bool) (P : Type 0) → (a || b || c) ≡ true → (a ≡ true → P) → (b ≡ true → P) → (c ≡ true → P) → P
one_of true b c P is first second third = first refl
one_of false true c P is first second third = second refl
one_of false false c P is first second third = third is

-- ---- what shuts a run down

keyed_shut : (replay : Replay) (q : QueueLists) (o : Option Gid) (c : Gid → QueueCall)
    → (with_call_of replay c o).shut ≡ replay.shut
keyed_shut replay q None c = refl
keyed_shut replay q (Some gid) c = refl

either_shut : (b : Bool) (x y : Replay) → y.shut ≡ x.shut → (if b then x else y).shut ≡ x.shut
either_shut true x y is = refl
either_shut false x y is = is

added_shut : (start : RunStart) (replay : Replay) (subject : Subject) (options : List Assigned) (position : Option ℕ)
    → (with_download start replay subject options position).shut ≡ replay.shut
added_shut start replay subject options position = either_shut _ replay _ refl

-- no call but one does
call_shut : (start : RunStart) (replay : Replay) (asked : Call) → (after_call start replay asked).shut ≡ true
    → (asked ≡ call.Shutdown) ⊎ (replay.shut ≡ true)
call_shut start replay (call.AddUri uris options position) is =
    inr (sym (added_shut start replay (Unlisted uris) options position) ∙ is)
call_shut start replay (call.AddTorrent meta uris options position) is =
    inr (sym (added_shut start replay (Listed (box_value meta) uris) options position) ∙ is)
call_shut start replay (call.Remove key) is = inr (sym (keyed_shut replay replay.queue (keyed_gid replay.queue key) Remove) ∙ is)
call_shut start replay (call.Pause key) is = inr (sym (keyed_shut replay replay.queue (keyed_gid replay.queue key) Pause) ∙ is)
call_shut start replay (call.Unpause key) is = inr (sym (keyed_shut replay replay.queue (keyed_gid replay.queue key) Unpause) ∙ is)
call_shut start replay (call.ChangePosition key position how) is =
    inr (sym (keyed_shut replay replay.queue (keyed_gid replay.queue key) (λ gid. ChangePosition gid position how)) ∙ is)
call_shut start replay (call.RemoveResult key) is = inr (sym (keyed_shut replay replay.queue (keyed_gid replay.queue key) Forget) ∙ is)
call_shut start replay call.Shutdown is = inl refl
call_shut start replay other is = inr is

here : (e : Event) (events : List Event) → Contains (e ∷ events) e
here e events = Contains-append_left (e ∷ []) events e (0, omega arith, refl)

shut_behind : (e : Event) (events : List Event) → WasShutDown events → WasShutDown (e ∷ events)
shut_behind e events is = (is.0, is.1, event_behind e (Called is.0 call.Shutdown is.1) events is.2)

shut_called : (start : RunStart) (past : List Event) → (replay_of start past).shut ≡ true → WasShutDown past
shut_called start [] is = absurd (false≢true is)
shut_called start (Called session asked now ∷ before) is = ⊎_elim
    (λ (shutdown : asked ≡ call.Shutdown). (
      session,
      now,
      subst (λ (c : Call). Contains (Called session asked now ∷ before)
          (Called session c now)) shutdown (here (Called session asked now) before),
    ))
    (λ (earlier : (replay_of start before).shut ≡ true).
    shut_behind (Called session asked now) before (shut_called start before earlier))
    (call_shut start (replay_of start before) asked is)
shut_called start (e ∷ before) is = shut_behind e before (shut_called start before is)

-- ---- what stops a run

stop_there : (past : List Event) → list_any is_stop past ≡ true → Contains past Stopped
stop_there [] is = absurd (false≢true is)
stop_there (Stopped ∷ before) is = here Stopped before
stop_there (e ∷ before) is = event_behind e Stopped before (stop_there before is)

-- the turn stops the run
abbrev pub StopsRunAt : Operation → Type 0
StopsRunAt op = (now : Moment) × (op ≡ operation.Stop now)

ones_stop_not : {P : Type 0} (events : List Event) → AreOfOnes events → Contains events Stopped → P
ones_stop_not events own there =
    let is = All-contains IsOfOne events Stopped own there in
    absurd (let never : None ≡ Some is.0 = is.1 in cc)

none_stop : {P : Type 0} (events : List Event) → events ≡ [] → Contains events Stopped → P
none_stop events is there = ones_stop_not events (no_events events is) there

one_stop_not : {P : Type 0} (e : Event) (events : List Event) → is_stop e ≡ false → Contains (e ∷ events) Stopped
    → (Contains events Stopped → P) → P
one_stop_not e events calm there rest = ⊎_elim
    (λ (first : Contains (e ∷ []) Stopped). ⊎_elim
    (λ (none : Contains [] Stopped). absurd (let within = none.1 in omega (arith, within)))
    (λ (same : e ≡ Stopped). absurd (let never : false ≡ true = sym calm ∙ ap is_stop same in cc))
    (Contains-push_cases [] e Stopped first))
    rest (Contains-append_cases (e ∷ []) events Stopped there)

left_stop_not : {P : Type 0} (doors : ℕ) → Contains (left_events doors) Stopped → P
left_stop_not zero there = none_stop [] refl there
left_stop_not (suc doors) there = one_stop_not Left [] refl there (λ none. none_stop [] refl none)

row_stops : (at : TurnStart) (s : RunStanding) (op : Operation) (events : List Event) (said : Said)
    → OperationRow at s op events said → Contains events Stopped → StopsRunAt op
row_stops at s (operation.Stop now) events said is there = (now, refl)
row_stops at s (operation.Call session asked now) events said is there =
    one_stop_not (Called session asked at.now) is.saves refl (subst (λ (es : List Event). Contains es Stopped) is.cut there)
    (λ saved. ones_stop_not is.saves (saves_of_ones at is.those _ is.saves is.outcome is.saved) saved)
row_stops at s operation.Pulse events said is there = none_stop events is.0 there
row_stops at s (operation.Notices from) events said is there = none_stop events is.0 there
row_stops at s operation.Leave events said is there =
    left_stop_not (doors_left at.start s.past) (subst (λ (es : List Event). Contains es Stopped) is.0 there)
row_stops at s (operation.Next worker now) events said is there =
    ones_stop_not events (row_calm at s (operation.Next worker now) events said tt is) there
row_stops at s (operation.Deliver id run bytes now) events said is there =
    ones_stop_not events (row_calm at s (operation.Deliver id run bytes now) events said tt is) there
row_stops at s (operation.More id want now) events said is there =
    ones_stop_not events (row_calm at s (operation.More id want now) events said tt is) there
row_stops at s (operation.Lose id mark now) events said is there =
    ones_stop_not events (row_calm at s (operation.Lose id mark now) events said tt is) there
row_stops at s (operation.Sized id total now) events said is there =
    ones_stop_not events (row_calm at s (operation.Sized id total now) events said tt is) there
row_stops at s (operation.Seal gid sealed now) events said is there =
    ones_stop_not events (row_calm at s (operation.Seal gid sealed now) events said tt is) there

answer_stops : (at : TurnStart) (s : RunStanding) (op : Operation) (events : List Event) (said : Said) (before : Option Said)
    → IsAnswered at s op events said before → Contains events Stopped → StopsRunAt op
answer_stops at s op events said (Some before) is there = none_stop events is.0 there
answer_stops at s op events said None is there = ⊎_elim (λ starved. none_stop events starved.1.0 there)
    (λ (row : OperationRow at s op events said). row_stops at s op events said row there) is

-- only a stop brings its event
pub stopped_by : (start : RunStart) (told : List RunTurn) (t : RunTurn) → MayComeAfter start told t
    → Contains t.events Stopped → StopsRunAt t.op
stopped_by start told t may there =
    answer_stops (turn_start start told t) (standing_after start told) t.op t.events t.answer.said
    (answer_before start (history_of told) t.op) may.answered there

-- ---- a run that never began

source_never : (error : SourceErr) → ending_of_source error ≡ Unfinished → ⊥
source_never Missing is = absurd cc
source_never Fault is = absurd cc
source_never TooLarge is = absurd cc
source_never (MetaError why) is = absurd cc
source_never (Mirrors count) is = absurd cc
source_never Starved is = absurd cc

words_never : (words : List (List ℕ)) (ending : RunEnding) → RefusesWords words ending → ending ≡ Unfinished → ⊥
words_never words NoMeaning refuses is = absurd cc
words_never words NoMemory refuses is = absurd cc
words_never words other refuses is = refuses

memory_never : (ending : RunEnding) → ending ≡ NoMemory → ending ≡ Unfinished → ⊥
memory_never ending at is = (let never : NoMemory ≡ Unfinished = sym at ∙ is in cc)

refusal_never : {O : Type 0} (sinks : SinkSays O) (out out' : O) (refusal ending : RunEnding)
    → PrintsRefusal sinks refusal out out' ending → ending ≡ Unfinished → refusal ≡ Unfinished
refusal_never sinks out out' NoMemory ending prints is = absurd (memory_never ending prints.0 is)
refusal_never sinks out out' refusal ending prints is =
    ⊎_elim (λ (same : ending ≡ refusal). sym same ∙ is)
    (λ (starved : ending ≡ NoMemory). absurd (memory_never ending starved is)) prints.0

module _ {D O : Type 0} {says : DiskSays D} {sinks : SinkSays O} {words : List (List ℕ)} {disk : D} {out : O}
    {ended : Ended D} {out' : O} where
  never_so : NeverBegan says sinks words disk out ended out' → ended.ending ≡ Unfinished → ⊥
  never_so never is =
      let refusal = refusal_never sinks out out' never.refusal ended.ending never.prints is in
      ⊎_elim (λ (wrong : RefusesWords words never.refusal × (ended.disk ≡ disk)). words_never words never.refusal wrong.0 refusal)
      (λ more. ⊎_elim
      (λ (lacks : LacksCall says words disk ended.disk never.refusal).
      source_never lacks.error (sym lacks.ending_is ∙ refusal))
      (λ (starved : never.refusal ≡ NoMemory). memory_never never.refusal starved refusal) more) never.ends

-- ---- a run over its links

module _ {D O L K : Type 0} {says : DiskSays D} {sinks : SinkSays O} (limited : Bool) (links : LinkSays L) {words : List (List ℕ)}
    {gids doors : ℕ} {disk : D} {olds : List (L × K)} {out : O} {ended : Ended D} {news : List (L × K)} {out' : O} where
  module _ (append : TurnsAppend)
      (it : RanOverLinks says sinks limited links words gids doors disk olds out ended news out')
      (unfinished : ended.ending ≡ Unfinished) where
    abbrev ran : Ran says sinks words gids doors disk out ended out'
    ran = it.ran

    abbrev start : RunStart
    start = ran_facts.start ran

    abbrev Why : Type 0
    Why = WasShutDown ended.journal.events.items
        ⊎ WasCutShort limited links start olds ended news
        ⊎ IsLeftPaused (start_of_line gids doors ran.begins.line.globals) ran.begins.line ended.journal.events.items

    pub unshort : (it.ran.begun.is_short || it.ran.short) ≡ false
    unshort = by (ran.begun.is_short || ran.short) refl
      where
        by : (short : Bool) → (ran.begun.is_short || ran.short) ≡ short → (ran.begun.is_short || ran.short) ≡ false
        by false is = is
        by true is = absurd (memory_never ended.ending (ends_so sinks ran.engine out out' ended.ending
            (ran.begun.is_short || ran.short) is ran.finishes.ends) unfinished)

    own_call : (o : Option Call) (turns : List RunTurn) (short : Bool) (u : RunTurn) → IsOwnCall o turns short
        → Contains turns u → (asked : Call) × (u.op ≡ operation.Call 0 asked (record { 0 = 0 }))
    own_call None turns short u is there = none_there u (subst (λ (ts : List RunTurn). Contains ts u) is.0 there)
    own_call (Some asked) turns short u is there = ⊎_elim
        (λ (none : Contains [] u). none_there u none)
        (λ (same : is.0 ≡ u). (asked, ap (λ (v : RunTurn). v.op) (sym same) ∙ is.2))
        (Contains-push_cases [] is.0 u (subst (λ (ts : List RunTurn). Contains ts u) is.1 there))

    -- a worker found that nothing was left to do
    module _ (place : ℕ) (at : WorkedOver limited links ran olds news place) (t : RunTurn)
        (there : Contains ran.stops.middle t) (said : t.answer.said ≡ Finished) where
      abbrev cut : CutAt ran.stops.middle t
      cut = cut_at ran.stops.middle t there

      abbrev own : List RunTurn
      own = ran.begun.desk.own

      abbrev front : List RunTurn
      front = own ++ cut.front

      abbrev back : List RunTurn
      back = cut.back ++ ran.stops.last ∷ []

      all_cut : all_turns says ran.stops ≡ front ++ t ∷ back
      all_cut =
          ap (λ (m : List RunTurn). (own ++ m) ++ ran.stops.last ∷ []) cut.cut
          ∙ (ap (λ (m : List RunTurn). m ++ ran.stops.last ∷ []) (sym (append_assoc own cut.front (t ∷ cut.back)))
          ∙ append_assoc front (t ∷ cut.back) (ran.stops.last ∷ []))

      abbrev past : List Event
      past = history_of (reverse front)

      abbrev later : List Event
      later = events_of (t ∷ back)

      items_cut : ended.journal.events.items ≡ reverse past ++ later
      items_cut = ran_facts.items_are ran ∙ (ap events_of all_cut ∙ (events_on front (t ∷ back)
          ∙ ap (λ (es : List Event). es ++ later) (sym (append front))))

      in_items : (e : Event) → Contains past e → Contains ended.journal.events.items e
      in_items e there = subst (λ (es : List Event). Contains es e) (sym items_cut)
          (Contains-append_left (reverse past) later e (in_reverse past e there))

      -- it was told to shut down
      by_call : (replay_of start past).shut ≡ true → Why
      by_call is = let was = shut_called start past is in
          inl (was.0, was.1, in_items (Called was.0 call.Shutdown was.1) was.2)

      -- only paused downloads were left
      by_rest : (doors_left start past == 0 && is_at_rest (queue_in start past)) ≡ true → Why
      by_rest is = inr (inr (record {
        past = past;
        rest = later;
        cut = items_cut;
        none = eqb-true (doors_left start past) 0 (and_first (doors_left start past == 0) (is_at_rest (queue_in start past)) is);
        paused = and_second (doors_left start past == 0) (is_at_rest (queue_in start past)) is;
        call = ran.begins.call;
        named = ran.begins.named;
        first = subst (StandsFirst ran.begins.call) (sym (append front))
            (stands_in_front ran (λ starved. memory_never ended.ending starved unfinished) cut.front);
      }))

      -- another worker stopped the run
      stopped_of : (u : RunTurn) → IsOfWorker limited links ran olds news u → (now : Moment) → u.op ≡ operation.Stop now → Why
      stopped_of u of now op = ⊎_elim
          (λ (came : CameFinished of.at.own.its.worked of.at.own.its.stop).
          let own = of.at.own in
          let inside = subst (λ (ts : List RunTurn). Contains ts u)
          (ap (λ (ts : List RunTurn). own.its.worked ++ ts) came.no_stop ∙ append-nil own.its.worked) of.there in
          absurd (subst IsWork op (worked_work links of.place own.from of.at.old.0 own.to of.at.new.0 own.came own.its u inside)))
          (λ (short : WasCutShort limited links start olds ended news). inr (inl short))
          (one_came limited links ran olds news unshort it.over.works of.place of.at)

      by_stop : list_any is_stop past ≡ true → Why
      by_stop is =
          let by = brought_by front Stopped (subst (λ (es : List Event). Contains es Stopped) (append front)
          (in_reverse past Stopped (stop_there past is))) in
          ⊎_elim
          (λ (first : Contains own by.turn). own_stops_not by first)
          (λ (mid : Contains cut.front by.turn).
          let u_there : Contains ran.stops.middle by.turn =
          subst (λ (ts : List RunTurn). Contains ts by.turn) (sym cut.cut)
          (Contains-append_left cut.front (t ∷ cut.back) by.turn mid) in
          stopped_of by.turn (it.over.stops by.turn u_there (stops_at by).0 (stops_at by).1) (stops_at by).0 (stops_at by).1)
          (Contains-append_cases own cut.front by.turn (subst (λ (ts : List RunTurn). Contains ts by.turn) (sym by.cut)
          (Contains-append_right by.earlier (by.turn ∷ by.later) by.turn (turn_at by.turn by.later))))
        where
          stops_at : (by : BroughtBy front Stopped) → StopsRunAt by.turn.op
          stops_at by = stopped_by start (reverse by.earlier) by.turn
              (ran_facts.may_come ran by.earlier by.turn (by.later ++ t ∷ back)
              (all_cut ∙ (ap (λ (ts : List RunTurn). ts ++ t ∷ back) by.cut
              ∙ append_assoc by.earlier (by.turn ∷ by.later) (t ∷ back)))) by.there

          own_stops_not : (by : BroughtBy front Stopped) → Contains own by.turn → Why
          own_stops_not by first = let op = own_call ran.begins.call own ran.begun.is_short by.turn ran.begins.own first in
              absurd (let never : operation.Call 0 op.0 (record { 0 = 0 }) ≡ operation.Stop (stops_at by).0 =
              sym op.1 ∙ (stops_at by).1 in cc)

      why_here : Why
      why_here = one_of (replay_of start past).shut (list_any is_stop past)
          (doors_left start past == 0 && is_at_rest (queue_in start past)) Why
          (finished_so start (reverse front) t (ran_facts.may_come ran front t back all_cut) said)
          by_call by_stop by_rest

    why_so : 1 ≤ length olds → Why
    why_so some =
        let at = it.over.each unshort 0 some in
        ⊎_elim
        (λ (came : CameFinished at.own.its.worked at.own.its.stop).
        let f = came.finishes in
        why_here 0 at f.turn (at.own.among f.turn f.there)
        (finished_by f.turn.answer.said f.said_is))
        (λ (short : WasCutShort limited links start olds ended news). inr (inl short))
        (one_came limited links ran olds news unshort it.over.works 0 at)

  pub shows_unfinished : TurnsAppend → IsRunOver says sinks limited links words gids doors disk olds out ended news out'
      → 1 ≤ length olds → ShowsUnfinished limited links words gids doors olds news ended
  shows_unfinished append (inl never) some unfinished = absurd (never_so never unfinished)
  shows_unfinished append (inr it) some unfinished = record {
    line = it.ran.begins.line;
    means = it.ran.begins.means;
    why = why_so append it unfinished some;
  }

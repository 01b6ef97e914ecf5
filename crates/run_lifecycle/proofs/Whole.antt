-- The history of a run begins with the call of its line, and ends with its stop.
use Rattle.std.proofs.Common.{◌≡◌, ◌≢◌, ◌⊎◌, inl, inr, ⊎_elim, ℕ, Bool, true, false, List, [], ◌∷◌, ◌++◌, Option, None, Some, refl, sym, ap, ◌∙◌, subst, arith, append_assoc}
use Rattle.std.specs.Prelude.{◌||◌, Contains, reverse}
use Rattle.std.specs.List.{list_any}
use Rattle.std.proofs.lemmas.Bool.{false≢true}
use Rattle.std.proofs.lemmas.List.{reverse-append}
use Rattle.std.proofs.lemmas.List.Elements.{Contains-append_left, Contains-append_right}
use Rattle.dl_disk.specs.declared.disk.Disk.{Ghosts as DiskSays}
use Rattle.dl_kinds.specs.declared.outside.Sink.{Ghosts as SinkSays}
use Rattle.engine_core.specs.EngineViews.{EngineView}
use Rattle.engine_turns.specs.CallRows.{CallRow, StopRow, stop_events}
use Rattle.engine_turns.specs.Phases.{TurnStart}
use Rattle.engine_turns.specs.RunLaws.{GoneStay}
use Rattle.engine_turns.specs.RunTurns.{IsAnswered, MayComeAfter, answer_before, is_nearly_full}
use Rattle.engine_turns.specs.Standings.{RunStanding, standing_after}
use Rattle.engine_turns.specs.Told.{RunTurn, history_after, history_of, moment_in}
use Rattle.engine_turns.specs.TurnLaws.{TurnsAppend}
use Rattle.engine_turns.specs.declared.operations.Operation.{Operation}
use Rattle.engine_turns.specs.declared.operations.Operation.TheVariants as operation
use Rattle.engine_turns.specs.declared.operations.Said.{Said}
use Rattle.engine_turns.specs.declared.operations.Said.TheVariants as said
use Rattle.machine_core.specs.RunLegal.{DownloadsStay, IsLegal, is_stop}
use Rattle.machine_core.specs.Starts.{RunStart}
use Rattle.machine_core.specs.declared.calls.Call.{Call}
use Rattle.machine_core.specs.declared.events.Event.{Event}
use Rattle.machine_core.specs.declared.events.Event.TheVariants.{Called, Stopped}
use Rattle.run_report.specs.declared.endings.RunEnding.{RunEnding}
use Rattle.run_report.specs.declared.endings.RunEnding.TheVariants.{NoMemory}
use Rattle.turn_desk.specs.Turns.{events_of}
use Rattle.run_lifecycle.specs.Begins.{IsOwnCall, is_no_memory}
use Rattle.run_lifecycle.specs.Finishes.{EndsBy, Ran}
use Rattle.run_lifecycle.specs.Histories.{IsHistoryOf, LeavesNoneUnsaved, StandsFirst, StopsLast}
use Rattle.run_lifecycle.specs.declared.ended.Ended.{Ended}
use Rattle.run_lifecycle.proofs.Ran as ran_facts
use Rattle.run_lifecycle.proofs.Saved.{stop_leaves_none}
use Rattle.run_lifecycle.proofs.Turns.{brought_among, cut_at, events_on}

-- ---- want of memory

short_false : {O D : Type 0} (sinks : SinkSays O) (v : EngineView D) (out out' : O) (ending : RunEnding) (short : Bool)
    → EndsBy sinks short v out out' ending → ending ≢ NoMemory → short ≡ false
short_false sinks v out out' ending true ends some = absurd (some ends.0)
short_false sinks v out out' ending false ends some = refl

neither : (a b : Bool) → (a || b) ≡ false → (a ≡ false) × (b ≡ false)
neither false false is = (refl, refl)
neither false true is = absurd (false≢true (sym is))
neither true b is = absurd (false≢true (sym is))

no_memory_said : {P : Type 0} (answer : Said) → is_no_memory answer ≡ false → answer ≡ said.NoMemory → P
no_memory_said answer none is = absurd (false≢true (sym none ∙ ap is_no_memory is))

-- ---- the call of the line

-- a call that comes first, and isn't answered for want of memory
first_called : (start : RunStart) (t : RunTurn) (call : Call) → MayComeAfter start [] t
    → t.op ≡ operation.Call 0 call (record { 0 = 0 }) → is_no_memory t.answer.said ≡ false
    → (saves : List Event) × (t.events ≡ Called 0 call (record { 0 = 0 }) ∷ saves)
first_called start t call may is some =
    let answered = subst
    (λ (op : Operation). IsAnswered (record { start = start; now = moment_in [] op; faults = t.before.faults })
    (standing_after start []) op t.events t.answer.said (answer_before start [] op)) is may.answered in
    ⊎_elim (λ short. no_memory_said t.answer.said some short.1.1)
    (λ (row : CallRow (record { start = start; now = record { 0 = 0 }; faults = t.before.faults })
    (standing_after start []) 0 call t.events t.answer.said).
    (row.saves, row.cut)) answered

-- ---- the stop

stops_by : (e : Event) → is_stop e ≡ true → e ≡ Stopped
stops_by Stopped is = refl
stops_by e is = absurd (false≢true is)

any_stop : (past : List Event) → list_any is_stop past ≡ true → Contains past Stopped
any_stop [] is = absurd (false≢true is)
any_stop (e ∷ past) is = by (is_stop e) refl (any_stop past)
  where
    by : (stops : Bool) → is_stop e ≡ stops → (list_any is_stop past ≡ true → Contains past Stopped)
        → Contains (e ∷ past) Stopped
    by true here rest = (0, omega arith, stops_by e here)
    by false here rest = Contains-append_right (e ∷ []) past Stopped (rest (rw here at is))

pub reversed_there : (xs : List Event) (x : Event) → Contains xs x → Contains (reverse xs) x
reversed_there xs x there =
    let c = cut_at xs x there in
    subst (λ (l : List Event). Contains l x)
    (sym (ap reverse c.cut ∙ (reverse-append c.front (x ∷ c.back)
    ∙ (ap (λ (l : List Event). l ++ reverse c.front) (reverse-append (x ∷ []) c.back)
    ∙ append_assoc (reverse c.back) (x ∷ []) (reverse c.front)))))
    (Contains-append_right (reverse c.back) (x ∷ reverse c.front) x (0, omega arith, refl))

-- a stop is answered by its row
stop_answered : (start : RunStart) (told : List RunTurn) (t : RunTurn) → MayComeAfter start told t
    → t.op ≡ operation.Stop (record { 0 = 0 })
    → (at : TurnStart) × (at.start ≡ start) × StopRow at (standing_after start told) t.events t.answer.said
stop_answered start told t may is =
    let answered = subst
    (λ (op : Operation). IsAnswered (record { start = start; now = moment_in told op; faults = t.before.faults })
    (standing_after start told) op t.events t.answer.said (answer_before start (history_of told) op)) is may.answered in
    ⊎_elim (λ (short : (false ≡ true) × _). absurd (false≢true short.0))
    (λ row. (
      record {
        start = start;
        now = moment_in told
            (operation.Stop (record { 0 = 0 }));
        faults = t.before.faults;
      },
      refl,
      row,
    )) answered

-- the run was stopped before, or is now
stopped_there : (at : TurnStart) (s : RunStanding) (events : List Event) (answer : Said) → StopRow at s events answer
    → Contains s.past Stopped ⊎ Contains events Stopped
stopped_there at s events answer row = by (list_any is_stop s.past) refl row.cut
  where
    by : (stopped : Bool) → list_any is_stop s.past ≡ stopped → events ≡ stop_events stopped ++ row.saves
        → Contains s.past Stopped ⊎ Contains events Stopped
    by true is cut = inl (any_stop s.past is)
    by false is cut = inr (subst (λ (es : List Event). Contains es Stopped) (sym cut) (0, omega arith, refl))

module _ {D O : Type 0} {says : DiskSays D} {sinks : SinkSays O} {words : List (List ℕ)}
    {gids doors : ℕ}
    {disk : D} {out : O} {ended : Ended D} {out' : O}
    (ran : Ran says sinks words gids doors disk out ended out') where
  not_short : ended.ending ≢ NoMemory → (ran.begun.is_short ≡ false) × (ran.short ≡ false)
  not_short some =
      neither ran.begun.is_short ran.short
      (short_false sinks ran.engine out out' ended.ending
      (ran.begun.is_short || ran.short) ran.finishes.ends some)

  first_by : (call : Option Call) (own rest more : List RunTurn) (short : Bool) → IsOwnCall call own short → short ≡ false
      → ran_facts.turns ran ≡ own ++ rest → StandsFirst call (events_of (own ++ more))
  first_by None own rest more short is none cut = tt
  first_by (Some call) own rest more short is none cut =
      let t = is.0 in
      let its : ran_facts.turns ran ≡ t ∷ rest = cut ∙ ap (λ (ts : List RunTurn). ts ++ rest) is.1 in
      let called = first_called (ran_facts.start ran) t call (ran_facts.may_come ran [] t rest its) is.2
      (sym is.3 ∙ none) in (
        called.0 ++ events_of more,
        ap (λ (ts : List RunTurn). events_of (ts ++ more)) is.1
            ∙ ap (λ (es : List Event). es ++ events_of more) called.1,
      )

  -- the line's own call is the first event also where only some turns behind it are looked at
  pub stands_in_front : ended.ending ≢ NoMemory → (more : List RunTurn)
      → StandsFirst ran.begins.call (events_of (ran_facts.own_call ran ++ more))
  stands_in_front some more = first_by ran.begins.call (ran_facts.own_call ran) _ more ran.begun.is_short ran.begins.own
      (not_short some).0 (ran_facts.turns_are ran)

  first : ended.ending ≢ NoMemory → StandsFirst ran.begins.call ended.journal.events.items
  first some = subst (StandsFirst ran.begins.call)
      (sym (ran_facts.items_are ran ∙ ap events_of (ran_facts.turns_are ran)))
      (stands_in_front some (ran_facts.middle ran ++ ran_facts.last_turn ran ∷ []))

  -- all turns but the last one
  abbrev front : List RunTurn
  front = ran_facts.own_call ran ++ ran_facts.middle ran

  cut : ran_facts.turns ran ≡ front ++ ran_facts.last_turn ran ∷ []
  cut = refl

  last_row : (at : TurnStart) × (at.start ≡ ran_facts.start ran)
      × StopRow at (standing_after (ran_facts.start ran) (reverse front)) (ran_facts.last_turn ran).events
      (ran_facts.last_turn ran).answer.said
  last_row = stop_answered (ran_facts.start ran) (reverse front) (ran_facts.last_turn ran)
      (ran_facts.may_come ran front (ran_facts.last_turn ran) [] cut) ran.stops.op

  pub stopped : TurnsAppend → Contains ended.journal.events.items Stopped
  stopped append =
      let t = ran_facts.last_turn ran in
      let row = last_row in
      let items : ended.journal.events.items ≡ events_of (front ++ t ∷ []) = ran_facts.items_are ran
      ∙ ap events_of cut in
      subst (λ (es : List Event). Contains es Stopped) (sym items)
      (⊎_elim
      (λ (before : Contains (history_of (reverse front)) Stopped).
      subst (λ (es : List Event). Contains es Stopped) (sym (events_on front (t ∷ [])))
      (Contains-append_left (events_of front) (events_of (t ∷ [])) Stopped
      (subst (λ (es : List Event). Contains es Stopped) (append front)
      (reversed_there (history_of (reverse front)) Stopped before))))
      (λ (now : Contains t.events Stopped). brought_among front t [] Stopped now)
      (stopped_there row.0 (standing_after (ran_facts.start ran) (reverse front)) t.events t.answer.said row.2))

  saved : DownloadsStay → GoneStay → ended.ending ≢ NoMemory
      → LeavesNoneUnsaved (ran_facts.start ran) (ran_facts.past ran)
  saved stay gone some =
      let t = ran_facts.last_turn ran in
      let row = last_row in
      let s = standing_after (ran_facts.start ran) (reverse front) in
      let told : ran_facts.told ran ≡ t ∷ reverse front = ap reverse cut ∙ reverse-append front (t ∷ []) in
      let past : ran_facts.past ran ≡ history_after s.past t.events = ran_facts.history_is ran ∙ ap history_of told in
      let said_none : is_no_memory t.answer.said ≡ false = ran.stops.said (not_short some).1 in
      subst (λ (p : List Event). LeavesNoneUnsaved (ran_facts.start ran) p) (sym past)
      (subst (λ (st : RunStart). LeavesNoneUnsaved st (history_after s.past t.events)) row.1
      (stop_leaves_none stay gone row.0 s t.events t.answer.said row.2 (λ is. no_memory_said t.answer.said said_none is)
      (subst (λ (st : RunStart). IsLegal st (history_after s.past t.events)) (sym row.1)
      (subst (λ (p : List Event). IsLegal (ran_facts.start ran) p) past (ran_facts.legal ran)))))

module _ {D O : Type 0} {says : DiskSays D} {sinks : SinkSays O} {words : List (List ℕ)}
    {gids doors : ℕ}
    {disk : D} {out : O} {ended : Ended D} {out' : O} where
  pub has_history : TurnsAppend → DownloadsStay → GoneStay → (ran : Ran says sinks words gids doors disk out ended out')
      → (ended.ending ≢ NoMemory → is_nearly_full ended.journal.events.items ≡ false
      → StopsLast (ran_facts.start ran) ended.journal.events.items) → IsHistoryOf says words gids doors disk ended
  has_history append stay gone ran last = record {
    line = ran.begins.line;
    means = ran.begins.means;
    legal = ran_facts.legal ran;
    call = ran.begins.call;
    named = ran.begins.named;
    call_is = ran.begins.call_is;
    first = first ran;
    stopped = stopped ran append;
    stops_last = last;
    saved = saved ran stay gone;
  }

-- The turns of the workers of a run over links.
use Rattle.std.proofs.Common.{◌≡◌, ◌≢◌, ◌⊎◌, inl, inr, ⊎_elim, ℕ, ◌-◌, true, false, List, [], ◌∷◌, append_assoc, Bool, Option, None, Some, Result, Ok, Err, length, refl, sym, ap, ◌∙◌, subst, arith}
use Rattle.std.specs.Prelude.{◌||◌, ◌++◌, Contains, IsTrue, reverse}
use Rattle.std.proofs.lemmas.Bool.{false≢true, lt-ltb, ltb-true}
use Rattle.std.proofs.lemmas.List.{append-nil, length-append, length-reverse}
use Rattle.std.proofs.lemmas.List.Elements.{Contains-append_cases, Contains-append_left, Contains-append_right, Contains-push_cases}
use Rattle.conn_worker.specs.Works.{StopsUnlessFinished}
use Rattle.conn_worker.specs.declared.ends.Spent.{Spent}
use Rattle.conn_worker.specs.declared.ends.WorkEnd.{WorkEnd}
use Rattle.conn_worker.specs.declared.ends.WorkEnd.TheVariants as end
use Rattle.dl_disk.specs.declared.disk.Disk.{Ghosts as DiskSays}
use Rattle.dl_kinds.specs.declared.outside.Sink.{Ghosts as SinkSays}
use Rattle.engine_core.specs.Askings.{IsNext}
use Rattle.engine_core.specs.EngineViews.{EngineView}
use Rattle.dl_kinds.specs.declared.runs.Moment.{Moment}
use Rattle.engine_turns.specs.RunTurns.{is_nearly_full}
use Rattle.engine_turns.specs.Told.{RunTurn, history_of}
use Rattle.engine_turns.specs.declared.limits.TheConstants.{MAX_ENTRIES}
use Rattle.engine_turns.specs.declared.operations.Operation.{Operation}
use Rattle.engine_turns.specs.declared.operations.Operation.TheVariants as operation
use Rattle.engine_turns.specs.declared.operations.Said.TheVariants as said
use Rattle.link_source.specs.declared.Links.{Ghosts as LinkSays}
use Rattle.machine_core.specs.declared.calls.Call.{Call}
use Rattle.machine_core.specs.declared.journal.TheConstants.{TURN_EVENTS}
use Rattle.run_lifecycle.proofs.Ran as ran_facts
use Rattle.run_lifecycle.proofs.Turns as list_facts
use Rattle.run_lifecycle.specs.Begins.{IsOwnCall}
use Rattle.run_lifecycle.specs.Finishes.{EndsBy, Ran}
use Rattle.run_lifecycle.specs.LinkCauses.{WorkedAmong}
use Rattle.run_lifecycle.specs.Stops.{all_turns, ends_short}
use Rattle.run_lifecycle.specs.TurnsOf.{AreFed}
use Rattle.run_lifecycle.specs.declared.ended.Ended.{Ended}
use Rattle.run_report.specs.declared.endings.RunEnding.{RunEnding}
use Rattle.run_report.specs.declared.endings.RunEnding.TheVariants.{NoMemory}
use Rattle.served_runs.specs.Completes.{IsCutShort, WasCutShort}
use Rattle.served_runs.specs.Over.{IsOfWorker, IsWork, WorkedOver}
use Rattle.served_runs.proofs.Finishing.{events_behind, full_so}
use Rattle.served_runs.proofs.WorkEnds.{CameFinished, came_ends, came_finished, full_by, worked_well, worked_work}
use Rattle.served_runs.proofs.TurnLists.{behind, first_or_later, here, none_there}

in_reversed : (turns : List RunTurn) (t : RunTurn) → Contains turns t → Contains (reverse turns) t
in_reversed turns t there =
    let c = list_facts.cut_at turns t there in
    subst (λ (ts : List RunTurn). Contains ts t) (sym (ap reverse c.cut ∙ list_facts.reversed_cut c.front t c.back))
    (Contains-append_right (reverse c.back) (t ∷ reverse c.front) t (here t (reverse c.front)))

-- ---- turns that ask for work

next_work : (op : Operation) → IsNext op → IsWork op
next_work (operation.Next worker now) is = tt
next_work other is = absurd is

-- the line's own call doesn't
own_asks_not : {P : Type 0} (call : Option Call) (turns : List RunTurn) (short : Bool) (t : RunTurn) → IsOwnCall call turns short
    → Contains turns t → IsNext t.op → P
own_asks_not None turns short t is there asks =
    none_there t (subst (λ (ts : List RunTurn). Contains ts t) is.0 there)
own_asks_not (Some call) turns short t is there asks = ⊎_elim (λ (none : Contains [] t). none_there t none)
    (λ (same : is.0 ≡ t). absurd (subst IsNext (ap (λ (v : RunTurn). v.op) (sym same) ∙ is.2) asks))
    (Contains-push_cases [] is.0 t (subst (λ (ts : List RunTurn). Contains ts t) is.1 there))

-- ---- how work comes out

-- what a worker takes behind its turns of the table is a stop
pub is_stopping : (came : Result WorkEnd Spent) (moment : ℕ) (turns : List RunTurn) (t : RunTurn)
    → StopsUnlessFinished came moment turns → Contains turns t → t.op ≡ operation.Stop (record { 0 = moment })
is_stopping (Ok end.Finished) moment turns t is there =
    none_there t (subst (λ (ts : List RunTurn). Contains ts t) is there)
is_stopping came moment turns t is there =
    ⊎_elim (λ (none : Contains [] t). none_there t none)
    (λ (same : is.0 ≡ t). ap (λ (v : RunTurn). v.op) (sym same) ∙ is.2)
    (Contains-push_cases [] is.0 t (subst (λ (ts : List RunTurn). Contains ts t) is.1 there))

-- nothing was left to do, or it was cut short, or memory was wanting
pub came_so : (came : Result WorkEnd Spent) → ends_short came ≡ false → (P : Type 0) → (came ≡ Ok end.Finished → P)
    → (came ≡ Ok end.JournalFull → P) → ((spent : Spent) → came ≡ Err spent → P) → P
came_so (Ok end.Finished) none P finished full spent = finished refl
came_so (Ok end.JournalFull) none P finished full spent = full refl
came_so (Ok end.NoMemory) none P finished full spent = absurd cc
came_so (Err s) none P finished full spent = spent s refl

pub unless_true : (a b : Bool) → (a ≡ true → b ≡ true) → b ≡ false → a ≡ false
unless_true false b so is = refl
unless_true true b so is = absurd (false≢true (sym is ∙ so refl))

-- a run for which memory was wanting ends so
pub ends_so : {D O : Type 0} (sinks : SinkSays O) (v : EngineView D) (out out' : O) (ending : RunEnding) (short : Bool)
    → short ≡ true → EndsBy sinks short v out out' ending → ending ≡ NoMemory
ends_so sinks v out out' ending true is ends = ends.0
ends_so sinks v out out' ending false is ends = absurd (false≢true is)

module _ {D O L K : Type 0} {says : DiskSays D} {sinks : SinkSays O} (limited : Bool) (links : LinkSays L) {words : List (List ℕ)}
    {gids doors : ℕ} {disk : D} {out : O} {ended : Ended D} {out' : O}
    (ran : Ran says sinks words gids doors disk out ended out') (olds news : List (L × K)) where
  abbrev Over : ℕ → Type 0
  Over place = WorkedOver limited links ran olds news place

  -- the worker's turns among all turns of the run
  abbrev pub among_all : (place : ℕ) (at : Over place) → WorkedAmong D links place (all_turns says ran.stops) at.old.0 at.new.0
  among_all place at = record {
    from = at.own.from;
    to = at.own.to;
    came = at.own.came;
    its = at.own.its;
    among = λ t there.
        Contains-append_left (ran.begun.desk.own ++ ran.stops.middle) (ran.stops.last ∷ []) t
        (Contains-append_right ran.begun.desk.own ran.stops.middle t (at.own.among t there));
  }

  -- a turn of work that is a worker's own isn't its stop
  pub its_work : (t : RunTurn) (is : IsOfWorker limited links ran olds news t) → IsWork t.op → Contains is.at.own.its.worked t
  its_work t is works =
      let its = is.at.own.its in ⊎_elim (λ (worked : Contains its.worked t). worked)
      (λ (stopped : Contains its.stop t).
      absurd (subst IsWork (is_stopping is.at.own.came its.b.moment its.stop t its.stops stopped) works))
      (Contains-append_cases its.worked its.stop t is.there)

  -- .. and so is each of its own turns, but the stop
  pub work_or_stop : (t : RunTurn) → IsOfWorker limited links ran olds news t
      → IsWork t.op ⊎ ((now : Moment) × (t.op ≡ operation.Stop now))
  work_or_stop t is =
      let own = is.at.own in let its = own.its in ⊎_elim
      (λ (worked : Contains its.worked t).
      inl (worked_work links is.place own.from is.at.old.0 own.to is.at.new.0 own.came its t worked))
      (λ (stopped : Contains its.stop t).
      inr (record { 0 = its.b.moment }, is_stopping own.came its.b.moment its.stop t its.stops stopped))
      (Contains-append_cases its.worked its.stop t is.there)

  -- a journal that was full for a turn stays so
  pub full_for : (t : RunTurn) → Contains (all_turns says ran.stops) t → (count : ℕ) → t.answer.said ≡ said.JournalFull count
      → is_nearly_full ended.journal.events.items ≡ true
  full_for t there count is =
      let c = list_facts.cut_at (all_turns says ran.stops) t there in
      let before = reverse c.front in
      let newer = reverse c.back ++ t ∷ [] in
      let turns : reverse (all_turns says ran.stops) ≡ newer ++ before =
      ap reverse c.cut ∙ list_facts.reversed_cut c.front t c.back ∙ sym (append_assoc (reverse c.back) (t ∷ []) before) in
      let behind_it = events_behind newer before in
      let items : length ended.journal.events.items ≡ length (behind_it.0 ++ history_of before) =
      sym (length-reverse ended.journal.events.items)
      ∙ ap length (ran_facts.history_is ran ∙ (ap history_of turns ∙ behind_it.1)) in
      let parts = length-append behind_it.0 (history_of before) in
      let many = ltb-true (MAX_ENTRIES - TURN_EVENTS) (length (history_of before))
      (full_so (ran_facts.start ran) before t (ran_facts.may_come ran c.front t c.back c.cut) count is) in
      lt-ltb (MAX_ENTRIES - TURN_EVENTS) (length ended.journal.events.items) (omega (arith, items, parts, many))

  module _ (unshort : (ran.begun.is_short || ran.short) ≡ false)
      (theirs : (t : RunTurn) → Contains ran.stops.middle t → IsWork t.op → IsOfWorker limited links ran olds news t) where
    fed : (place : ℕ) (at : Over place) → ends_short at.own.came ≡ false
    fed place at = unless_true (ends_short at.own.came) (ran.begun.is_short || ran.short) at.short unshort

    -- memory sufficed for each turn of work
    pub one_fed : (t : RunTurn) → IsOfWorker limited links ran olds news t → IsWork t.op → t.answer.said ≡ said.NoMemory → ⊥
    one_fed t is works =
        let own = is.at.own in
        (worked_well links is.place own.from is.at.old.0 own.to is.at.new.0 own.came own.its
        (λ starved. false≢true (sym (fed is.place is.at) ∙ ap ends_short starved)) t (its_work t is works)).memory

    -- ---- all turns

    asks_fed : (t : RunTurn) → Contains (all_turns says ran.stops) t → IsNext t.op → t.answer.said ≡ said.NoMemory → ⊥
    asks_fed t there asks = ⊎_elim
        (λ (front : Contains (ran.begun.desk.own ++ ran.stops.middle) t). ⊎_elim
        (λ (first : Contains ran.begun.desk.own t).
        own_asks_not ran.begins.call ran.begun.desk.own ran.begun.is_short t ran.begins.own first asks)
        (λ (between : Contains ran.stops.middle t).
        one_fed t (theirs t between (next_work t.op asks)) (next_work t.op asks))
        (Contains-append_cases ran.begun.desk.own ran.stops.middle t front))
        (λ (same : ran.stops.last ≡ t).
        absurd (subst IsNext (ap (λ (v : RunTurn). v.op) (sym same) ∙ ran.stops.op) asks))
        (Contains-push_cases (ran.begun.desk.own ++ ran.stops.middle) ran.stops.last t there)

    -- memory sufficed for each turn that asked for work
    pub all_fed : AreFed (ran_facts.told ran)
    all_fed = list_facts.all_reversed
        (λ (before : List RunTurn) (t : RunTurn). IsNext t.op → t.answer.said ≢ said.NoMemory) (all_turns says ran.stops)
        (λ earlier t later cut. asks_fed t (subst (λ (ts : List RunTurn). Contains ts t) (sym cut)
        (Contains-append_right earlier (t ∷ later) t (here t later))))

    -- ---- how work came out

    abbrev Cut : Type 0
    Cut = WasCutShort limited links (ran_facts.start ran) olds ended news

    abbrev Finished : (place : ℕ) → Over place → Type 0
    Finished place at = CameFinished at.own.its.worked at.own.its.stop

    was_cut : (place : ℕ) (at : Over place) → IsCutShort limited ended.journal.events.items at.own.came → Cut
    was_cut place at why = record {
      place = place;
      old = at.old;
      new = at.new;
      old_is = at.old_is;
      new_is = at.new_is;
      from = at.own.from;
      to = at.own.to;
      came = at.own.came;
      its = at.own.its;
      why = why;
      few = at.few;
      told = ran_facts.told ran;
      turns = ran_facts.are_turns ran (λ well. all_fed);
      among = λ t there. in_reversed (all_turns says ran.stops) t ((among_all place at).among t there);
    }

    abbrev IsCut : Result WorkEnd Spent → Type 0
    IsCut came = IsCutShort limited ended.journal.events.items came

    by_journal : (place : ℕ) (at : Over place) → at.own.came ≡ Ok end.JournalFull → IsCut at.own.came
    by_journal place at is =
        let own = at.own in
        let by = came_ends links place own.from at.old.0 own.to at.new.0 own.came own.its end.JournalFull is (λ starved. cc) in
        let full = full_by by.turn.answer.said by.said_is in
        subst IsCut (sym is)
        (full_for by.turn ((among_all place at).among by.turn by.there) full.0 full.1)

    by_turns : (l : Bool) (came : Result WorkEnd Spent) (spent : Spent) → (l ≡ false → (by : WorkEnd) × (came ≡ Ok by))
        → came ≡ Err spent → IsTrue l
    by_turns true came spent kept is = refl
    by_turns false came spent kept is =
        let by = kept refl in absurd (let never : Ok by.0 ≡ Err spent = sym by.1 ∙ is in cc)

    -- nothing was left to do for a worker, or it was cut short
    pub one_came : (place : ℕ) (at : Over place) → Finished place at ⊎ Cut
    one_came place at =
        let own = at.own in
        came_so own.came (fed place at) (Finished place at ⊎ Cut)
        (λ is. inl (came_finished links place own.from at.old.0 own.to at.new.0 own.came own.its is))
        (λ is. inr (was_cut place at (by_journal place at is)))
        (λ spent is. inr (was_cut place at (subst IsCut (sym is) (by_turns limited own.came spent at.kept is))))

    one_works : (t : RunTurn) → IsOfWorker limited links ran olds news t → IsWork t.op ⊎ Cut
    one_works t is = ⊎_elim
        (λ (came : Finished is.place is.at).
        let own = is.at.own in
        let whole : own.its.worked ++ own.its.stop ≡ own.its.worked =
        ap (λ (ts : List RunTurn). own.its.worked ++ ts) came.no_stop ∙ append-nil own.its.worked in
        inl (worked_work links is.place own.from is.at.old.0 own.to is.at.new.0 own.came own.its t
        (subst (λ (ts : List RunTurn). Contains ts t) whole is.there)))
        (λ (cut : Cut). inr cut) (one_came is.place is.at)

    abbrev AllWork : List RunTurn → Type 0
    AllWork ts = (t : RunTurn) → Contains ts t → IsWork t.op

    -- where none was cut short, all their turns are work
    pub all_work : (ts : List RunTurn) → ((t : RunTurn) → Contains ts t → IsOfWorker limited links ran olds news t)
        → AllWork ts ⊎ Cut
    all_work [] theirs = inl (λ t there. none_there t there)
    all_work (u ∷ ts) theirs = ⊎_elim
        (λ (first : IsWork u.op). ⊎_elim
        (λ (rest : AllWork ts). inl (λ t there. ⊎_elim
        (λ (same : u ≡ t). subst (λ (v : RunTurn). IsWork v.op) same first) (rest t) (first_or_later u ts t there)))
        (λ (cut : Cut). inr cut) (all_work ts (λ t there. theirs t (behind u ts t there))))
        (λ (cut : Cut). inr cut) (one_works u (theirs u (here u ts)))

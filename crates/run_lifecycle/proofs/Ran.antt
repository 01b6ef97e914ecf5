-- What holds of a run that began: its turns, its history and its disk.
use Rattle.std.proofs.Common.{◌≡◌, ◌≢◌, ℕ, Bool, true, false, IsTrue, List, [], ◌∷◌, ◌++◌, refl, sym, ap, ◌∙◌, subst, append_assoc}
use Rattle.std.specs.Prelude.{Contains, reverse}
use Rattle.std.proofs.lemmas.Bool.{false≢true}
use Rattle.std.proofs.lemmas.List.{reverse-reverse}
use Rattle.dl_disk.specs.State.{DiskState}
use Rattle.dl_disk.specs.declared.disk.Disk.{Ghosts as DiskSays}
use Rattle.dl_kinds.specs.declared.outside.Sink.{Ghosts as SinkSays}
use Rattle.engine_core.specs.Beginnings.{GoesOnFrom, beginning_of, ties_run}
use Rattle.engine_core.specs.Durable.{KeepsPromises}
use Rattle.engine_core.specs.EngineViews.{EngineStart, EngineView}
use Rattle.engine_core.specs.Engines.{moment_told, past_of, start_of}
use Rattle.engine_core.specs.TurnReads.{FitsDisk, TurnsFitDisk}
use Rattle.engine_turns.specs.RunTurns.{MayComeAfter}
use Rattle.engine_turns.specs.Standings.{RunStanding}
use Rattle.engine_turns.specs.Told.{AllTurns, RunTurn, history_of}
use Rattle.machine_core.specs.RunLegal.{IsLegal}
use Rattle.machine_core.specs.Starts.{RunStart}
use Rattle.machine_core.specs.declared.events.Event.{Event}
use Rattle.turn_desk.specs.Turns.{events_of, last_mark}
use Rattle.turn_desk.specs.declared.turn.Given.{Given}
use Rattle.turn_desk.specs.declared.turn.Stamp.{Stamp}
use Rattle.run_lifecycle.specs.Begins.{stamp_on, start_of_line, start_on}
use Rattle.run_lifecycle.specs.Finishes.{Ran}
use Rattle.run_lifecycle.specs.Stops.{all_turns}
use Rattle.run_lifecycle.specs.TurnsOf.{AreFed, AreTurnsOf}
use Rattle.run_lifecycle.specs.declared.ended.Ended.{Ended}
use Rattle.run_report.specs.declared.endings.RunEnding.TheVariants.{NoMemory}
use Rattle.run_lifecycle.proofs.Turns.{AreMarked, BroughtBy, MarksBetween, all_at, all_reversed, brought_by, marks_between, reversed_cut}

-- the moment of a disk that tells
told_moment : (tells : Bool) (disk : DiskState) → IsTrue tells → moment_told tells disk ≡ disk.moment
told_moment true disk told = refl
told_moment false disk told = absurd (false≢true told)

module _ {D O : Type 0} {says : DiskSays D} {sinks : SinkSays O} {words : List (List ℕ)}
    {gids doors : ℕ}
    {disk : D} {out : O} {ended : Ended D} {out' : O}
    (ran : Ran says sinks words gids doors disk out ended out') where
  abbrev pub engine : EngineView D
  engine = ran.engine

  abbrev pub read : D
  read = ran.begins.read

  abbrev pub items : List Event
  items = ended.journal.events.items

  -- the history, the newest event first
  abbrev pub past : List Event
  past = reverse items

  -- all turns, the oldest first, and the newest first
  abbrev pub turns : List RunTurn
  turns = all_turns says ran.stops

  abbrev pub told : List RunTurn
  told = reverse turns

  abbrev given : Given (EngineStart D) Event
  given = ran.begun.desk.given

  -- the engine began as the line says, on the disk that was read
  began : beginning_of engine ≡ start_on read gids doors ran.begins.line.globals
  began = ran.stops.after.start ∙ ran.begins.start

  abbrev pub start : RunStart
  start = start_of_line gids doors ran.begins.line.globals

  pub start_is : start_of engine.state ≡ start
  start_is = ap (λ (s : EngineStart D). s.run) began

  given_is : engine.given ≡ read
  given_is = ap (λ (s : EngineStart D). s.disk) began

  -- ---- the history

  past_is : past_of engine.state ≡ history_of told
  past_is = ap (λ (s : RunStanding). s.past) ran.stops.after.stands.stands.is

  -- the journal holds the history, the oldest event first
  pub journal_is : reverse items ≡ past_of engine.state
  journal_is = ap reverse ran.finishes.journal ∙ reverse-reverse (past_of engine.state)

  pub history_is : reverse items ≡ history_of told
  history_is = journal_is ∙ past_is

  pub items_are : items ≡ events_of turns
  items_are =
      ran.finishes.journal
      ∙ (ran.stops.after.events ∙ ap (λ (es : List Event). es ++ events_of turns) ran.begins.entries)

  pub legal : IsLegal start (reverse items)
  legal = subst (λ (past : List Event). IsLegal start past) (sym journal_is)
      (subst (λ (s : RunStart). IsLegal s (past_of engine.state)) start_is ran.finishes.legal)

  pub legal_told : IsLegal start (history_of told)
  legal_told = subst (λ (past : List Event). IsLegal start past) history_is legal

  pub event_brought : (e : Event) → Contains items e → BroughtBy turns e
  event_brought e there = brought_by turns e (subst (λ (es : List Event). Contains es e) items_are there)

  -- each turn came as the turns before it say
  pub may_come : (earlier : List RunTurn) (t : RunTurn) (later : List RunTurn) → turns ≡ earlier ++ t ∷ later
      → MayComeAfter start (reverse earlier) t
  may_come earlier t later cut =
      subst (λ (s : EngineStart D). ties_run s earlier t) ran.begins.start
      (ran.stops.after.ties earlier t later cut).tied

  -- each turn may come after those before it
  pub ties : AllTurns (MayComeAfter start) told
  ties = all_reversed (MayComeAfter start) turns may_come

  -- they are the run's, where memory sufficed for them
  pub are_turns : (ended.ending ≢ NoMemory → AreFed told) → AreTurnsOf ended start told
  are_turns fed = record { history = history_is; ties = ties; memory = fed }

  -- ---- marks

  abbrev pub mark : Stamp
  mark = stamp_on says read

  pub marked : AreMarked mark turns
  marked earlier t later cut =
      let is = ran.stops.after.ties earlier t later cut in
      record { before = is.mark ∙ ap (λ (m : Stamp). last_mark m earlier) ran.begins.mark; later = is.later }

  -- the last mark is that of the disk that is handed back
  pub last_is : last_mark mark turns ≡ stamp_on says ended.disk
  last_is =
      ap (λ (m : Stamp). last_mark m turns) (sym ran.begins.mark)
      ∙ (sym ran.stops.after.mark ∙ ap (stamp_on says) (sym ran.finishes.disk))

  pub between : (earlier : List RunTurn) (t : RunTurn) (later : List RunTurn) → turns ≡ earlier ++ t ∷ later
      → MarksBetween mark turns t
  between earlier t later cut =
      subst (λ (ts : List RunTurn). MarksBetween mark ts t) (sym cut)
      (marks_between mark earlier t later (subst (AreMarked mark) cut marked))

  -- ---- the disk

  pub keeps : IsTrue says.tells → KeepsPromises start told (says.state ended.disk)
  keeps tells = subst (λ (d : D). KeepsPromises start told (says.state d)) (sym ran.finishes.disk)
      (subst (λ (s : RunStart). KeepsPromises s told (says.state engine.state.run.disk)) start_is
      (ran.stops.after.stands.stands.disk tells))

  pub goes_on : IsTrue says.tells → GoesOnFrom told (says.state read) (says.state ended.disk)
  goes_on tells = subst (λ (d : D). GoesOnFrom told (says.state read) (says.state d)) (sym ran.finishes.disk)
      (subst (λ (d : D). GoesOnFrom told (says.state d) (says.state engine.state.run.disk)) given_is
      (ran.stops.after.stands.goes_on tells))

  reads : IsTrue says.tells → TurnsFitDisk start told (says.state ended.disk)
  reads tells = subst (λ (d : D). TurnsFitDisk start told (says.state d)) (sym ran.finishes.disk)
      (subst (λ (s : RunStart). TurnsFitDisk s told (says.state engine.state.run.disk)) start_is
      (ran.stops.after.stands.stands.reads tells))

  -- each turn is as the disk read at the marks around it
  pub fits : IsTrue says.tells → (earlier : List RunTurn) (t : RunTurn) (later : List RunTurn)
      → turns ≡ earlier ++ t ∷ later
      → FitsDisk start (says.state ended.disk) (reverse earlier) t
  fits tells earlier t later cut =
      all_at (FitsDisk start (says.state ended.disk)) (reverse later) t (reverse earlier)
      (subst (λ (ts : List RunTurn). TurnsFitDisk start ts (says.state ended.disk))
      (ap reverse cut ∙ reversed_cut earlier t later) (reads tells))

  pub mark_time : IsTrue says.tells → mark.time ≡ (says.state read).moment
  mark_time tells = told_moment says.tells (says.state read) tells

  pub last_time : IsTrue says.tells → (last_mark mark turns).time ≡ (says.state ended.disk).moment
  last_time tells = ap (λ (m : Stamp). m.time) last_is ∙ told_moment says.tells (says.state ended.disk) tells

  -- ---- the turns themselves

  abbrev pub own_call : List RunTurn
  own_call = ran.begun.desk.own

  abbrev pub middle : List RunTurn
  middle = ran.stops.middle

  abbrev pub last_turn : RunTurn
  last_turn = ran.stops.last

  pub turns_are : turns ≡ own_call ++ (middle ++ last_turn ∷ [])
  turns_are = append_assoc own_call middle (last_turn ∷ [])

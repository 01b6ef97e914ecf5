-- What was done at the doors of a run, and what its history shows of that.
use Rattle.std.proofs.Common.{◌≡◌, ◌⊎◌, inl, inr, ⊎_elim, ℕ, Bool, true, false, List, [], ◌∷◌, ◌++◌, Some, length, map, refl, sym, ap, ◌∙◌, subst, slice_get}
use Rattle.std.specs.Prelude.{◌||◌, ◌+◌, if◌then◌else◌, Contains, reverse}
use Rattle.std.proofs.lemmas.List.Elements.{Contains-append_left, Contains-append_right}
use Rattle.served_runs.proofs.TurnLists.{here}
use Rattle.served_runs.proofs.Workers.{ends_so}
use Rattle.console_http.specs.declared.ends.DoorEnd.{DoorEnd}
use Rattle.console_session.specs.DoorLaws.{DoorsTellNotices, SocketsTell}
use Rattle.console_session.specs.DoorSessions.{IsCauseOf}
use Rattle.console_session.specs.SessionLaws.{CallsStandWhereReplied, RepliesAreOfTheHistory, call_places}
use Rattle.console_session.specs.declared.serving.Transcript.{Transcript}
use Rattle.desk_participants.specs.Uses.{Use}
use Rattle.desk_participants.proofs.Uses.{map_length}
use Rattle.dl_clock.specs.declared.clock.Clock.{Ghosts as ClockSays}
use Rattle.dl_disk.specs.declared.disk.Disk.{Ghosts as DiskSays}
use Rattle.dl_kinds.specs.declared.outside.Sink.{Ghosts as SinkSays}
use Rattle.dl_kinds.specs.declared.runs.Moment.{Moment}
use Rattle.door_source.specs.declared.Doors.{Ghosts as DoorSays}
use Rattle.engine_turns.specs.Told.{RunTurn}
use Rattle.engine_turns.specs.TurnLaws.{TurnsAppend}
use Rattle.engine_turns.specs.declared.operations.Operation.TheVariants as operation
use Rattle.engine_turns.specs.declared.operations.Said.TheVariants as said
use Rattle.link_source.specs.declared.Links.{Ghosts as LinkSays}
use Rattle.machine_core.specs.declared.calls.Call.{Call}
use Rattle.run_report.specs.declared.kinds.Reply.{Reply}
use Rattle.run_report.specs.declared.endings.RunEnding.TheVariants.{NoMemory}
use Rattle.turn_desk.specs.Turns.{events_of}
use Rattle.run_lifecycle.specs.Begins.{is_no_memory}
use Rattle.run_lifecycle.specs.Consoles.{console_of, is_console_on}
use Rattle.run_lifecycle.specs.Stops.{all_turns}
use Rattle.run_lifecycle.specs.declared.console.ConsoleTerms.{ConsoleTerms}
use Rattle.run_lifecycle.specs.declared.ended.Ended.{Ended}
use Rattle.run_lifecycle.proofs.Ran as ran_facts
use Rattle.shared_run.specs.DoorsCauses.{DoorsServed, IsOwnPlace, IsPlaceOfCall, IsServedDoor, NoneServed, ShowsDoors}
use Rattle.shared_run.specs.Participants.{session_of}
use Rattle.shared_run.specs.RunsTogether.{RanTogether, RunsTogether, used_edges}
use Rattle.shared_run.specs.Together.{Edges, NobodyWorked, UsesDoor, WorkedTogether}
use Rattle.shared_run.proofs.Called.{finds_finished, place_of_call, stands_where_told}
use Rattle.shared_run.proofs.Calling.{all_named, names_all, nobody_named, none_named}
use Rattle.shared_run.proofs.Framed.{cut, framed}
use Rattle.shared_run.proofs.Over.{none_mapped, or_middle}
use Rattle.shared_run.proofs.Passes.{of_pass}
use Rattle.shared_run.proofs.Replied.{reply_at}
use Rattle.shared_run.proofs.Sockets.{own_among}

module _ {D L A K O : Type 0} {says : DiskSays D} {links : LinkSays L} {clocks : ClockSays K} {doors : DoorSays A}
    {sinks : SinkSays O}
    {words : List (List ℕ)} {gids : ℕ} {disk : D} {olds : Edges L A K} {out : O} {ended : Ended D} {news : Edges L A K}
    {transcripts : List Transcript} {out' : O} where
  module _ (append : TurnsAppend) (replies : RepliesAreOfTheHistory) (stand : CallsStandWhereReplied)
      (tell : DoorsTellNotices) (ran : RanTogether says links clocks doors sinks words gids disk olds out ended news transcripts out') where
    abbrev on : Bool
    on = ran.begun.console.is_on

    abbrev turns : List RunTurn
    turns = ran.goes_on.goes.works.turns

    abbrev all : List RunTurn
    all = all_turns says (framed ran).stops

    abbrev Together : Type 0
    Together = WorkedTogether D links clocks doors ran.begun.console ran.begun.desk.own (used_edges on olds)
        ran.goes_on.used transcripts turns ran.goes_on.goes.works.work_short

    abbrev Nobody : Type 0
    Nobody = NobodyWorked ran.begun.desk.own (used_edges on olds) ran.goes_on.used transcripts turns
        ran.goes_on.goes.works.work_short

    all_are : all ≡ turns ++ ran.goes_on.goes.works.last ∷ []
    all_are = ap (λ (ts : List RunTurn). ts ++ ran.goes_on.goes.works.last ∷ []) (sym (cut ran.goes_on.goes.works).1)

    from_turns : (t : RunTurn) → Contains turns t → Contains all t
    from_turns t there = subst (λ (ts : List RunTurn). Contains ts t) (sym all_are)
        (Contains-append_left turns (ran.goes_on.goes.works.last ∷ []) t there)

    on_is : on ≡ is_console_on ran.begins.line.globals
    on_is = ap (λ (c : ConsoleTerms). c.is_on) ran.begins.console_is

    doors_are : (is : Bool) → on ≡ is → news.doors ≡ (if is then ran.goes_on.used.doors else olds.doors)
    doors_are is same = subst (λ (b : Bool). news.doors ≡ (if b then ran.goes_on.used.doors else olds.doors)) same
        (ap (λ (e : Edges L A K). e.doors) ran.goes_on.news_are)

    were : (is : Bool) → on ≡ is → (used_edges on olds).doors ≡ (if is then olds.doors else [])
    were is same = ap (λ (b : Bool). if b then olds.doors else []) same

    -- ---- no door was served

    abbrev NoDoor : Type 0
    NoDoor = NoneServed doors clocks words gids olds ended news transcripts

    abbrev OwnAlone : Type 0
    OwnAlone = (session place : ℕ) → IsPlaceOfCall ended.journal.events.items session place
        → IsOwnPlace session place

    none_served : (ended.ending ≡ NoMemory) ⊎ (on ≡ false) → news.doors ≡ olds.doors → transcripts ≡ [] → OwnAlone → NoDoor
    none_served why same untold alone = record {
      same = same;
      untold = untold;
      why = ⊎_elim (λ (short : ended.ending ≡ NoMemory). inr short)
          (λ (off : on ≡ false). inl (ran.begins.line, ran.begins.means, sym on_is ∙ off)) why;
      calls = alone;
    }

    by_nobody : (is : Bool) → on ≡ is → Nobody → NoDoor
    by_nobody is same nobody =
        let goes = ran.goes_on.goes in
        let short : (ran.begun.is_short || goes.work_short) ≡ true = ap (λ (b : Bool). ran.begun.is_short || b) goes.works.short_is
        ∙ or_middle ran.begun.is_short goes.works.work_short (is_no_memory goes.works.last.answer.said) nobody.short_is in
        let kept : (if is then ran.goes_on.used.doors else olds.doors) ≡ olds.doors = by is same in
        none_served (inl (ends_so sinks goes.engine out out' ended.ending (ran.begun.is_short || goes.work_short) short
        goes.finishes.ends)) (doors_are is same ∙ kept) nobody.untold (nobody_named replies stand ran nobody)
      where
        by : (b : Bool) → on ≡ b → (if b then ran.goes_on.used.doors else olds.doors) ≡ olds.doors
        by true is_on = ap (λ (e : Edges L A K). e.doors) nobody.same ∙ were true is_on
        by false off = refl

    by_off : on ≡ false → (worked : Together) → NoDoor
    by_off off worked =
        let none = none_mapped (λ (u : Use A K Transcript). u.old) worked.door_uses
        (sym (were false off) ∙ worked.doors_used.olds_are) in
        none_served (inr off) (doors_are false off)
        (worked.doors_used.came_are ∙ ap (map (λ (u : Use A K Transcript). u.came)) none)
        (none_named replies stand ran worked none)

    -- ---- doors were served

    abbrev Served : ℕ → Use A K Transcript → Type 0
    Served door one = IsServedDoor doors clocks words gids olds ended news transcripts ran.begins.line turns
        ran.goes_on.goes.works.last door one

    served_by : (door : ℕ) (one : Use A K Transcript)
        → UsesDoor D doors clocks (console_of ran.begins.line.globals) turns (length olds.links + door) door one
        → one.came.places.items ≡ call_places (session_of door) ended.journal.events.items → Served door one
    served_by door one its whole =
        let session = session_of door in
        let in_all = (λ (t : RunTurn) (there : Contains its.its.before t).
        from_turns t (of_pass (length olds.links + door) turns t
        (subst (λ (ts : List RunTurn). Contains ts t) (sym its.own)
        (Contains-append_left its.its.before (its.its.last ∷ []) t there)))) in
        let calls = (λ (t : RunTurn) (call : Call) (asked : Moment) (place : ℕ) (reply : Reply) (starved : Bool)
        (there : Contains its.its.before t) (op_is : t.op ≡ operation.Call session call asked)
        (said_is : t.answer.said ≡ said.Replied place reply starved).
        stands_where_told (framed ran) append replies t session call asked place reply starved (in_all t there) op_is
        said_is) in record {
          its = its;
          calls = calls;
          places = λ place there.
              let at = reply_at session its.its.before its.its.serves.kinds place
              (subst (λ (ps : List ℕ). Contains ps place) its.its.serves.places_are there) in
              place_of_call (framed ran) session at.call at.asked place at.reply
              (calls at.t at.call at.asked place at.reply at.starved at.there at.op_is at.said_is);
          all = whole;
          sockets =
              let key = (console_of ran.begins.line.globals).secret in
              let visits = its.its.serves.visits in
              let among = own_among (length olds.links + door) turns its.its.before (its.its.last ∷ []) all
              (ran.goes_on.goes.works.last ∷ []) its.own all_are in
              subst (λ (ts : List RunTurn). SocketsTell key session (ran_facts.start (framed ran)) (reverse ts) visits) all_are
              (tell key session (ran_facts.start (framed ran)) (reverse all) doors.tells
              (console_of ran.begins.line.globals).most visits its.its.before (ran_facts.ties (framed ran)) among
              its.its.serves.served its.its.serves.sockets);
          finished = λ is.
              let found = subst
              (λ (end : DoorEnd). IsCauseOf doors end its.its.before its.its.serves.visits one.new.0)
              (sym its.its.serves.end_is ∙ is) its.its.serves.cause in
              finds_finished (framed ran) append found.asking
              (in_all found.asking (subst (λ (ts : List RunTurn). Contains ts found.asking) (sym found.are)
              (Contains-append_right found.front (found.asking ∷ []) found.asking (here found.asking [])))) found.op
              found.said;
        }

    served_door : (worked : Together) (door : ℕ) (one : Use A K Transcript) → slice_get worked.door_uses door ≡ Some one
        → Served door one
    served_door worked door one there =
        let many : length worked.uses ≡ length olds.links =
        sym (ap length worked.used.olds_are ∙ map_length (λ (u : Use L K Bool). u.old) worked.uses) in
        served_by door one
        (subst (λ (n : ℕ). UsesDoor D doors clocks (console_of ran.begins.line.globals) turns (n + door) door one) many
        (subst (λ (c : ConsoleTerms). UsesDoor D doors clocks c turns (length worked.uses + door) door one)
        ran.begins.console_is (worked.each_door door one there)))
        (names_all replies stand ran worked door one there)

    by_on : on ≡ true → (worked : Together) → DoorsServed doors clocks words gids olds ended news transcripts
    by_on is_on worked = record {
      line = ran.begins.line;
      means = ran.begins.means;
      on = sym on_is ∙ is_on;
      turns = turns;
      last = ran.goes_on.goes.works.last;
      stops = ran.goes_on.goes.works.op;
      history = ran_facts.items_are (framed ran) ∙ ap events_of all_are;
      uses = worked.door_uses;
      used = record {
        olds_are = sym (were true is_on) ∙ worked.doors_used.olds_are;
        news_are = doors_are true is_on ∙ worked.doors_used.news_are;
        came_are = worked.doors_used.came_are;
      };
      each = served_door worked;
      calls = all_named replies stand ran worked;
    }

    by_work : (is : Bool) → on ≡ is → (worked : Together) → ShowsDoors doors clocks words gids olds ended news transcripts
    by_work true is worked = inr (inr (by_on is worked))
    by_work false off worked = inr (inl (by_off off worked))

  pub shows_doors : TurnsAppend → RepliesAreOfTheHistory → CallsStandWhereReplied → DoorsTellNotices
      → RunsTogether says links clocks doors sinks words gids disk olds out ended news transcripts out'
      → ShowsDoors doors clocks words gids olds ended news transcripts
  shows_doors append replies stand tell (inl never) = inl (record {
    same = ap (λ (e : Edges L A K). e.doors) never.1;
    untold = never.2;
    none = never.0.journal;
  })
  shows_doors append replies stand tell (inr ran) = ⊎_elim
      (λ worked. by_work append replies stand tell ran ran.begun.console.is_on refl worked)
      (λ nobody. inr (inl (by_nobody append replies stand tell ran ran.begun.console.is_on refl nobody))) ran.goes_on.goes.works.worked

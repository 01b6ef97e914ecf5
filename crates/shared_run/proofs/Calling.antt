-- The calls in the history of a run are the line's own and those of the sessions of its doors.
use Rattle.std.proofs.Common.{◌≡◌, ◌⊎◌, inl, inr, ⊎_elim, ℕ, zero, suc, Bool, true, false, List, [], ◌∷◌, ◌++◌, Option, None, Some, Ok, length, refl, sym, ap, ◌∙◌, subst, append-nil, arith, cond, slice_get}
use Rattle.std.specs.Prelude.{◌+◌, ◌-◌, ◌≤◌, ◌<◌, Contains, reverse}
use Rattle.std.proofs.Math.Dec.{ltb}
use Rattle.std.proofs.lemmas.Bool.{eqb-true, false≢true, ltb-false, ltb-true}
use Rattle.std.proofs.lemmas.List.{reverse-reverse}
use Rattle.std.proofs.lemmas.List.Elements.{All-contains, Contains-append_cases, Contains-push_cases, filter-append}
use Rattle.served_runs.proofs.TurnLists.{none_there}
use Rattle.served_runs.proofs.WorkEnds.{worked_work}
use Rattle.served_runs.proofs.Workers.{is_stopping}
use Rattle.served_runs.specs.Over.{IsWork}
use Rattle.console_session.specs.CallTurns.{IsOfSession, reply_places}
use Rattle.console_session.specs.SessionLaws.{CallsStandWhereReplied, RepliesAreOfTheHistory, call_places, calls_by, turns_calling}
use Rattle.console_session.specs.declared.serving.Transcript.{Transcript}
use Rattle.desk_participants.specs.Uses.{Use}
use Rattle.desk_participants.proofs.Seating.{get_at}
use Rattle.dl_clock.specs.declared.clock.Clock.{Ghosts as ClockSays}
use Rattle.dl_disk.specs.declared.disk.Disk.{Ghosts as DiskSays}
use Rattle.dl_kinds.specs.declared.outside.Sink.{Ghosts as SinkSays}
use Rattle.door_source.specs.declared.Doors.{Ghosts as DoorSays}
use Rattle.engine_turns.specs.RunTurns.{MayComeAfter}
use Rattle.engine_turns.specs.Told.{RunTurn}
use Rattle.engine_turns.specs.declared.operations.Operation.{Operation}
use Rattle.engine_turns.specs.declared.operations.Operation.TheVariants as operation
use Rattle.link_source.specs.declared.Links.{Ghosts as LinkSays}
use Rattle.machine_core.specs.declared.calls.Call.{Call}
use Rattle.machine_core.specs.declared.events.Event.{Event}
use Rattle.run_lifecycle.specs.Begins.{IsOwnCall}
use Rattle.run_lifecycle.specs.Stops.{all_turns}
use Rattle.run_lifecycle.specs.declared.ended.Ended.{Ended}
use Rattle.run_lifecycle.proofs.Ran as ran_facts
use Rattle.run_lifecycle.proofs.Turns.{all_reversed, cut_at}
use Rattle.shared_run.specs.DoorsCauses.{IsNamedPlace, IsOwnPlace, IsPlaceOfCall}
use Rattle.shared_run.specs.Participants.{session_of}
use Rattle.shared_run.specs.RunsTogether.{RanTogether, used_edges}
use Rattle.shared_run.specs.Together.{Edges, NobodyWorked, UsesLink, WorkedTogether, own_before}
use Rattle.shared_run.proofs.CallPlaces.{call_placed, calling_turn, calls_in_front, calls_of_pass, own_calls, replied_turn}
use Rattle.shared_run.proofs.FirstCall.{first_place}
use Rattle.shared_run.proofs.Framed.{cut, framed}
use Rattle.shared_run.proofs.Passes.{by_pass}

-- ---- one turn

pub work_calls_not : {P : Type 0} (session : ℕ) (op : Operation) → IsWork op → calls_by session op ≡ true → P
work_calls_not session (operation.Call number call now) works calls = absurd works
work_calls_not session other works calls = absurd (false≢true calls)

pub op_calls_not : {P : Type 0} (session : ℕ) (op other : Operation) → op ≡ other → calls_by session other ≡ false
    → calls_by session op ≡ true → P
op_calls_not session op other is none calls = absurd (false≢true (sym none ∙ (sym (ap (calls_by session) is) ∙ calls)))

session_by : (session number : ℕ) (op : Operation) → IsOfSession number op → calls_by session op ≡ true → session ≡ number
session_by session number (operation.Call its call now) is calls = sym (eqb-true its session calls) ∙ is
session_by session number operation.Pulse is calls = absurd (false≢true calls)
session_by session number (operation.Notices from) is calls = absurd (false≢true calls)
session_by session number other is calls = absurd is

-- the line's own call is of session 0
pub own_session : (session : ℕ) (call : Option Call) (own : List RunTurn) (short : Bool) → IsOwnCall call own short
    → (t : RunTurn) → Contains own t → calls_by session t.op ≡ true → session ≡ 0
own_session session None own short is t there calls =
    none_there t (subst (λ (ts : List RunTurn). Contains ts t) is.0 there)
own_session session (Some call) own short is t there calls = ⊎_elim (λ (none : Contains [] t). none_there t none)
    (λ (same : is.0 ≡ t).
    let op_is : t.op ≡ operation.Call 0 call (record { 0 = 0 }) = ap (λ (u : RunTurn). u.op) (sym same) ∙ is.2 in
    sym (eqb-true 0 session (sym (ap (calls_by session) op_is) ∙ calls)))
    (Contains-push_cases [] is.0 t (subst (λ (ts : List RunTurn). Contains ts t) is.1 there))

-- .. and of the first worker's pass
before_pass : (worker : ℕ) (own : List RunTurn) (t : RunTurn) → Contains (own_before worker own) t
    → (worker ≡ 0) × Contains own t
before_pass zero own t there = (refl, there)
before_pass (suc worker) own t there = none_there t there

module _ {D L A K O : Type 0} {says : DiskSays D} {links : LinkSays L} {clocks : ClockSays K} {doors : DoorSays A}
    {sinks : SinkSays O}
    {words : List (List ℕ)} {gids : ℕ} {disk : D} {olds : Edges L A K} {out : O} {ended : Ended D} {news : Edges L A K}
    {transcripts : List Transcript} {out' : O} where
  module _ (replies : RepliesAreOfTheHistory) (stand : CallsStandWhereReplied)
      (ran : RanTogether says links clocks doors sinks words gids disk olds out ended news transcripts out') where
    abbrev turns : List RunTurn
    turns = ran.goes_on.goes.works.turns

    abbrev last : RunTurn
    last = ran.goes_on.goes.works.last

    abbrev all : List RunTurn
    all = all_turns says (framed ran).stops

    abbrev items : List Event
    items = ended.journal.events.items

    abbrev Together : Type 0
    Together = WorkedTogether D links clocks doors ran.begun.console ran.begun.desk.own
        (used_edges ran.begun.console.is_on olds) ran.goes_on.used transcripts turns ran.goes_on.goes.works.work_short

    abbrev Nobody : Type 0
    Nobody = NobodyWorked ran.begun.desk.own (used_edges ran.begun.console.is_on olds) ran.goes_on.used transcripts turns
        ran.goes_on.goes.works.work_short

    -- ---- the turns by which a session calls

    all_are : all ≡ turns ++ last ∷ []
    all_are = ap (λ (ts : List RunTurn). ts ++ last ∷ []) (sym (cut ran.goes_on.goes.works).1)

    last_not : (session : ℕ) → calls_by session last.op ≡ false
    last_not session = ap (calls_by session) ran.goes_on.goes.works.op

    calling_all : (session : ℕ) → turns_calling session all ≡ turns_calling session turns
    calling_all session = ap (turns_calling session) all_are
        ∙ (filter-append (λ (t : RunTurn). calls_by session t.op) turns (last ∷ [])
        ∙ (ap (λ (b : Bool). turns_calling session turns ++ cond b (last ∷ []) []) (last_not session)
        ∙ append-nil (turns_calling session turns)))

    placed : (session : ℕ) → call_places session items ≡ reply_places (turns_calling session turns)
    placed session =
        ap (call_places session) (sym (reverse-reverse items) ∙ ap reverse (ran_facts.history_is (framed ran)))
        ∙ (stand (ran_facts.start (framed ran)) (reverse all) session
        (all_reversed (MayComeAfter (ran_facts.start (framed ran))) all (ran_facts.may_come (framed ran)))
        ∙ (ap (λ (ts : List RunTurn). reply_places (turns_calling session ts)) (reverse-reverse all)
        ∙ ap reply_places (calling_all session)))

    placed_there : (session place : ℕ) → IsPlaceOfCall items session place → Contains (call_places session items) place
    placed_there session place is =
        subst (λ (n : ℕ). Contains (call_places session items) n) (let none : 0 + place ≡ place = omega arith in none)
        (call_placed session is.0 is.1 0 items place is.2)

    -- a call that stands there came by a turn of its session
    called_by : (session place : ℕ) → IsPlaceOfCall items session place
        → (t : RunTurn) × Contains turns t × (calls_by session t.op ≡ true)
    called_by session place is =
        let replied = replied_turn (turns_calling session turns) place
        (subst (λ (ps : List ℕ). Contains ps place) (placed session) (placed_there session place is)) in
        let calls = calling_turn session turns replied.0 replied.1 in
        (replied.0, calls.there, calls.calls)

    -- where the own call is the only one of session 0 it comes before all else
    own_place : turns_calling 0 turns ≡ turns_calling 0 ran.begun.desk.own → (session place : ℕ)
        → IsPlaceOfCall items session place → session ≡ 0 → IsOwnPlace session place
    own_place only session place is own = (
      own,
      first_place replies (framed ran) place
          (subst (λ (ps : List ℕ). Contains ps place)
          (ap (λ (s : ℕ). call_places s items) own ∙ (placed 0 ∙ ap reply_places only)) (placed_there session place is)),
    )

    module _ (worked : Together) where
      -- the turn is one of this session's own, at its door
      record IsOfDoor (session : ℕ) (t : RunTurn) : Type 0 where
        door : ℕ
        low : door < length worked.door_uses
        by : session ≡ session_of door
        pass : t.pass ≡ length worked.uses + door

      -- a worker calls by none of its turns
      works_not : {P : Type 0} (session worker : ℕ) (one : Use L K Bool)
          (used : UsesLink D links clocks ran.begun.desk.own turns worker one) (t : RunTurn)
          → Contains (used.by_clock.its.worked ++ used.by_clock.its.stop) t → calls_by session t.op ≡ true → P
      works_not session worker one used t there calls =
          let its = used.by_clock.its in
          ⊎_elim (λ (is : Contains its.worked t). work_calls_not session t.op
          (worked_work links worker used.from one.old.0 used.to one.new.0 (Ok used.came) its t is) calls)
          (λ (stopped : Contains its.stop t). op_calls_not session t.op
          (operation.Stop (record { 0 = its.b.moment }))
          (is_stopping (Ok used.came) its.b.moment its.stop t its.stops stopped) refl calls)
          (Contains-append_cases its.worked its.stop t there)

      -- a call by the pass of a worker is the line's own
      by_link : (session : ℕ) (t : RunTurn) → Contains turns t → calls_by session t.op ≡ true → t.pass < length worked.uses
          → (t.pass ≡ 0) × Contains ran.begun.desk.own t
      by_link session t there calls low =
          let here = get_at worked.uses t.pass low in
          let used = worked.each t.pass here.0 here.1 in
          let mine = used.by_clock.its.worked ++ used.by_clock.its.stop in
          ⊎_elim (λ (before : Contains (own_before t.pass ran.begun.desk.own) t). before_pass t.pass ran.begun.desk.own t before)
          (λ (is : Contains mine t). works_not session t.pass here.0 used t is calls)
          (Contains-append_cases (own_before t.pass ran.begun.desk.own) mine t
          (subst (λ (ts : List RunTurn). Contains ts t) used.own (by_pass t.pass turns t there refl)))

      by_door : (session : ℕ) (t : RunTurn) → Contains turns t → calls_by session t.op ≡ true → length worked.uses ≤ t.pass
          → IsOfDoor session t
      by_door session t there calls high =
          let c = cut_at turns t there in
          let within = worked.numbered c.front t c.back c.cut in
          let door : ℕ = t.pass - length worked.uses in
          let pass : length worked.uses + door ≡ t.pass = omega (arith, high) in
          let low : door < length worked.door_uses = omega (arith, high, within) in
          let its = get_at worked.door_uses door low in
          let used = worked.each_door door its.0 its.1 in
          record {
            door = door;
            low = low;
            by = ⊎_elim
                (λ (is : Contains used.its.before t). session_by session (session_of door) t.op
                (All-contains (λ (u : RunTurn). IsOfSession (session_of door) u.op) used.its.before t used.its.serves.kinds is)
                calls)
                (λ (same : used.its.last ≡ t). op_calls_not session t.op operation.Leave
                (ap (λ (u : RunTurn). u.op) (sym same) ∙ used.its.leaves) refl calls)
                (Contains-push_cases used.its.before used.its.last t
                (subst (λ (ts : List RunTurn). Contains ts t) used.own
                (by_pass (length worked.uses + door) turns t there (sym pass))));
            pass = sym pass;
          }

      whose : (session : ℕ) (t : RunTurn) → Contains turns t → calls_by session t.op ≡ true
          → ((session ≡ 0) × (t.pass ≡ 0) × (0 < length worked.uses)) ⊎ IsOfDoor session t
      whose session t there calls = by (ltb t.pass (length worked.uses)) refl
        where
          by : (low : Bool) → ltb t.pass (length worked.uses) ≡ low
              → ((session ≡ 0) × (t.pass ≡ 0) × (0 < length worked.uses)) ⊎ IsOfDoor session t
          by true is =
              let low = ltb-true t.pass (length worked.uses) is in
              let own = by_link session t there calls low in inl (
                own_session session ran.begins.call ran.begun.desk.own ran.begun.is_short ran.begins.own t own.1 calls,
                own.0,
                omega (arith, low),
              )
          by false is = inr (by_door session t there calls (ltb-false t.pass (length worked.uses) is))

      -- session 0 calls by the first pass alone, and there but once
      own_only : 0 < length worked.uses → turns_calling 0 turns ≡ turns_calling 0 ran.begun.desk.own
      own_only some =
          let first = get_at worked.uses 0 some in
          let used = worked.each 0 first.0 first.1 in
          calls_of_pass 0 0 turns (λ t there calls.
          ⊎_elim (λ own. own.1) (λ (by : IsOfDoor 0 t). absurd (let of_door : 0 ≡ by.door + 1 = by.by in omega (arith, of_door)))
          (whose 0 t there calls))
          ∙ (ap (turns_calling 0) used.own
          ∙ calls_in_front 0 ran.begun.desk.own (used.by_clock.its.worked ++ used.by_clock.its.stop)
          (λ t there calls. works_not 0 0 first.0 used t there calls))

      -- ---- transcripts

      -- the session of a door calls by the door's pass alone
      only_by : (door : ℕ) (t : RunTurn) → Contains turns t → calls_by (session_of door) t.op ≡ true
          → t.pass ≡ length worked.uses + door
      only_by door t there calls = ⊎_elim
          (λ own. absurd (let zero_is : door + 1 ≡ 0 = own.0 in omega (arith, zero_is)))
          (λ (is : IsOfDoor (session_of door) t).
          let same : door + 1 ≡ is.door + 1 = is.by in let pass = is.pass in omega (arith, same, pass))
          (whose (session_of door) t there calls)

      pub names_all : (door : ℕ) (one : Use A K Transcript) → slice_get worked.door_uses door ≡ Some one
          → one.came.places.items ≡ call_places (session_of door) items
      names_all door one there =
          let session = session_of door in
          let used = worked.each_door door one there in
          used.its.serves.places_are
          ∙ (ap reply_places (sym (own_calls session used.its.before used.its.last used.its.serves.kinds used.its.leaves)
          ∙ (ap (turns_calling session) (sym used.own)
          ∙ sym (calls_of_pass session (length worked.uses + door) turns (only_by door))))
          ∙ sym (placed session))

      pub all_named : (session place : ℕ) → IsPlaceOfCall items session place
          → IsOwnPlace session place ⊎ IsNamedPlace worked.door_uses session place
      all_named session place is =
          let came = called_by session place is in
          ⊎_elim (λ own. inl (own_place (own_only own.2) session place is own.0))
          (λ (by : IsOfDoor session came.0).
          let its = get_at worked.door_uses by.door by.low in inr (record {
            door = by.door;
            one = its.0;
            is = its.1;
            by = by.by;
            named = subst (λ (ps : List ℕ). Contains ps place)
                (ap (λ (s : ℕ). call_places s items) by.by ∙ sym (names_all by.door its.0 its.1))
                (placed_there session place is);
          })) (whose session came.0 came.1 came.2)

      -- where no door is used there are no calls but the line's own
      pub none_named : worked.door_uses ≡ [] → (session place : ℕ) → IsPlaceOfCall items session place
          → IsOwnPlace session place
      none_named none session place is =
          let came = called_by session place is in
          ⊎_elim (λ own. own_place (own_only own.2) session place is own.0)
          (λ (by : IsOfDoor session came.0). absurd (let low = by.low in let no_doors = ap length none in
          omega (arith, low, no_doors)))
          (whose session came.0 came.1 came.2)

    -- nor where nobody worked
    pub nobody_named : Nobody → (session place : ℕ) → IsPlaceOfCall items session place → IsOwnPlace session place
    nobody_named nobody session place is =
        let came = called_by session place is in
        own_place (ap (turns_calling 0) nobody.none) session place is
        (own_session session ran.begins.call ran.begun.desk.own ran.begun.is_short ran.begins.own came.0
        (subst (λ (ts : List RunTurn). Contains ts came.0) nobody.none came.1) came.2)

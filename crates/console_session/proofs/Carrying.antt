-- Turns of a session behind others, and the calls that were carried out in them.
use Rattle.std.proofs.Common.{◌≡◌, inl, inr, ℕ, Bool, List, [], ◌∷◌, ◌++◌, Option, Result, refl, sym, ap, ◌∙◌, subst, append-nil, append_assoc}
use Rattle.std.specs.Prelude.{◌+◌, All, IfOk, if◌then◌else◌}
use Rattle.std.proofs.lemmas.List.Elements.{All-append, All-cons, All-nil}
use Rattle.console_http.specs.Visits.{capped}
use Rattle.dl_kinds.specs.declared.runs.Moment.{Moment}
use Rattle.engine_core.specs.Beginnings.{ties_run}
use Rattle.engine_turns.specs.Told.{RunTurn}
use Rattle.engine_turns.specs.declared.operations.Answer.{Answer}
use Rattle.engine_turns.specs.declared.operations.Operation.{Operation}
use Rattle.engine_turns.specs.declared.operations.Operation.TheVariants as operation
use Rattle.engine_turns.specs.declared.operations.Said.TheVariants as said
use Rattle.machine_core.specs.declared.calls.Call.{Call}
use Rattle.machine_core.specs.declared.notices.Cursor.{Cursor}
use Rattle.machine_core.specs.declared.notices.Notice.{Notice}
use Rattle.rpc_console.specs.Dispatch.{InvocationAsks}
use Rattle.rpc_console.specs.declared.asking.Asking.TheVariants.{One}
use Rattle.rpc_console.specs.declared.asking.Keys.{Keys}
use Rattle.rpc_envelope.specs.Turns.{Invocation, Invoked, OutcomeData}
use Rattle.turn_desk.specs.Laws.{NoTurnsChangeNothing, TurnsAddUp}
use Rattle.turn_desk.specs.Sights.{DeskId, Went}
use Rattle.console_session.proofs.CallTurnLists.{call_turns_on, came_on, places_on, read_on, starved_on}
use Rattle.console_session.specs.CallTurns.{AreReadFrom, CameBy, CameInOrder, IsOfSession, NeedsNoTurn, SessionSight, call_turns, is_call, moment_of_call, places_by, reply_places, starved_in_reply}
use Rattle.console_session.specs.Sessions.{AsksForFinish, AsksForNotices, CarriesOutCall, GoesOnAs, HasCarriedOut, NotesAnswer, SessionAt, TakesCallTurn, TakesTurns, secret_of, session_at, starved_after}
use Rattle.console_session.specs.declared.session.ConsoleSession.{ConsoleSession}

-- ---- one turn

pub pulse_none : (t : RunTurn) → t.op ≡ operation.Pulse → call_turns (t ∷ []) ≡ []
pulse_none t is = subst (λ (op : Operation). (if is_call op then t ∷ [] else []) ≡ []) (sym is) refl

pub pulse_kind : (session : ℕ) (t : RunTurn) → t.op ≡ operation.Pulse
    → All (λ (u : RunTurn). IsOfSession session u.op) (t ∷ [])
pulse_kind session t is =
    let P : RunTurn → Type 0 = λ u. IsOfSession session u.op in
    All-cons P t [] (subst (IsOfSession session) (sym is) tt) (All-nil P)

pub notices_none : (t : RunTurn) (from : Option Cursor) → t.op ≡ operation.Notices from → call_turns (t ∷ []) ≡ []
notices_none t from is = subst (λ (op : Operation). (if is_call op then t ∷ [] else []) ≡ []) (sym is) refl

pub notices_kind : (session : ℕ) (t : RunTurn) (from : Option Cursor) → t.op ≡ operation.Notices from
    → All (λ (u : RunTurn). IsOfSession session u.op) (t ∷ [])
notices_kind session t from is =
    let P : RunTurn → Type 0 = λ u. IsOfSession session u.op in
    All-cons P t [] (subst (IsOfSession session) (sym is) tt) (All-nil P)

pub call_one : (t : RunTurn) (session : ℕ) (call : Call) (now : Moment) → t.op ≡ operation.Call session call now
    → call_turns (t ∷ []) ≡ t ∷ []
call_one t session call now is = subst (λ (op : Operation). (if is_call op then t ∷ [] else []) ≡ t ∷ []) (sym is) refl

pub call_kind : (t : RunTurn) (session : ℕ) (call : Call) (now : Moment) → t.op ≡ operation.Call session call now
    → All (λ (u : RunTurn). IsOfSession session u.op) (t ∷ [])
call_kind t session call now is =
    let P : RunTurn → Type 0 = λ u. IsOfSession session u.op in
    All-cons P t [] (subst (IsOfSession session) (sym is) refl) (All-nil P)

-- ---- turns of a session

module _ {D T K : Type 0} (sight : T → SessionSight D) (desk_id : T → DeskId) (reads : K → ℕ → K → Type 0) where
  goes_on_both : (a b c : ConsoleSession K) → GoesOnAs a b → GoesOnAs b c → GoesOnAs a c
  goes_on_both a b c first later =
      record { number = later.number ∙ first.number; secret = later.secret ∙ first.secret }

  -- no turn was taken, and nothing changed
  pub takes_none : NoTurnsChangeNothing (ties_run {D = D}) → (a : SessionAt K T) → TakesTurns sight desk_id reads [] a a
  takes_none none a = record {
    goes_on = record { number = refl; secret = refl };
    went = none (sight a.desk);
    desk_is = refl;
    kinds = All-nil (λ (t : RunTurn). IsOfSession a.session.number t.op);
    read = refl;
    places = sym (append-nil a.session.places.items);
    starved = refl;
  }

  -- .. and no call was carried out
  pub carried_none : NoTurnsChangeNothing (ties_run {D = D}) → (a : SessionAt K T) → HasCarriedOut sight desk_id reads a [] a
  carried_none none a = record { turns = []; takes = takes_none none a; came = refl }

  module _ (add_up : TurnsAddUp (ties_run {D = D})) where
    pub takes_both : (a b c : SessionAt K T) (first later : List RunTurn) → TakesTurns sight desk_id reads first a b
        → TakesTurns sight desk_id reads later b c → TakesTurns sight desk_id reads (first ++ later) a c
    takes_both a b c first later one two =
        let split = call_turns_on first later in
        let over = λ (P : List RunTurn → Type 0) (x : P (call_turns first ++ call_turns later)).
        subst P (sym split) x in
        let P : RunTurn → Type 0 = λ t. IsOfSession a.session.number t.op in
        record {
          goes_on = goes_on_both a.session b.session c.session one.goes_on two.goes_on;
          went = add_up (sight a.desk) (sight b.desk) (sight c.desk) first later one.went two.went;
          desk_is = two.desk_is ∙ one.desk_is;
          kinds = All-append P first later one.kinds
              (subst (λ (n : ℕ). All (λ (t : RunTurn). IsOfSession n t.op) later) one.goes_on.number two.kinds);
          read = over (λ (l : List RunTurn). AreReadFrom reads a.session.clock.now l c.session.clock.now)
              (read_on reads a.session.clock.now b.session.clock.now c.session.clock.now (call_turns first)
              (call_turns later) one.read two.read);
          places = two.places
              ∙ (ap (λ (l : List ℕ). l ++ reply_places (call_turns later)) one.places
              ∙ (append_assoc a.session.places.items (reply_places (call_turns first)) (reply_places (call_turns later))
              ∙ ap (λ (l : List ℕ). a.session.places.items ++ l)
              (sym (places_on (call_turns first) (call_turns later)) ∙ ap reply_places (sym split))));
          starved = two.starved
              ∙ (ap (λ (n : ℕ). starved_after n (call_turns later)) one.starved
              ∙ (sym (starved_on a.session.starved (call_turns first) (call_turns later))
              ∙ ap (starved_after a.session.starved) (sym split)));
        }

    -- what was carried out, and what came of the turns behind
    pub carried_on : (first a b : SessionAt K T) (turns : List RunTurn) (earlier more : List Invoked)
        → TakesTurns sight desk_id reads turns a b
        → CameInOrder (secret_of a.session) a.session.number (call_turns turns) more
        → HasCarriedOut sight desk_id reads first earlier a → HasCarriedOut sight desk_id reads first (earlier ++ more) b
    carried_on first a b turns earlier more takes came at =
        let here = subst (λ (s : Option (List ℕ)). CameInOrder s first.session.number (call_turns turns) more)
        at.takes.goes_on.secret
        (subst (λ (n : ℕ). CameInOrder (secret_of a.session) n (call_turns turns) more) at.takes.goes_on.number came) in
        record {
          turns = at.turns ++ turns;
          takes = takes_both first a b at.turns turns at.takes takes;
          came = subst
              (λ (l : List RunTurn). CameInOrder (secret_of first.session) first.session.number l (earlier ++ more))
              (sym (call_turns_on at.turns turns))
              (came_on (secret_of first.session) first.session.number (call_turns at.turns) (call_turns turns) earlier
              more at.came here);
        }

    -- a call was carried out, or needed no turn
    pub called_on : (first a b : SessionAt K T) (earlier : List Invoked) (invoked : Invoked)
        → CarriesOutCall sight desk_id reads invoked a b → HasCarriedOut sight desk_id reads first earlier a
        → HasCarriedOut sight desk_id reads first (earlier ++ invoked ∷ []) b
    called_on first a b earlier invoked carries =
        carried_on first a b carries.turns earlier (invoked ∷ []) carries.takes
        (call_turns carries.turns, [], sym (append-nil (call_turns carries.turns)), carries.came, refl)

    -- no call is carried out where it is asked whether the run is finished
    pub asked_on : (first a b : SessionAt K T) (earlier : List Invoked) (finished : Bool)
        → AsksForFinish sight desk_id reads a finished b → HasCarriedOut sight desk_id reads first earlier a
        → HasCarriedOut sight desk_id reads first (earlier ++ []) b
    asked_on first a b earlier finished asks =
        carried_on first a b (asks.turn ∷ []) earlier [] asks.takes (pulse_none asks.turn asks.op)

  -- a turn was taken for notices: nothing else changed
  pub notices_asked : {E : Type 0} (session : ConsoleSession K) (desk desk' : T) (t : RunTurn) (from : Option Cursor)
      (answer : Answer) (result : Result (List Notice × Cursor) E) → t.op ≡ operation.Notices from → t.answer ≡ answer
      → IfOk result (λ told. answer.said ≡ said.Notices told.0 told.1)
      → Went ties_run (sight desk) (t ∷ []) (sight desk') → desk_id desk' ≡ desk_id desk
      → AsksForNotices sight desk_id reads from (session_at session desk) result (session_at session desk')
  notices_asked session desk desk' t from answer result op is told went desk_is =
      let none = sym (notices_none t from op) in
      record {
        turn = t;
        op = op;
        told = subst (λ (x : Answer). IfOk result (λ told. x.said ≡ said.Notices told.0 told.1)) (sym is) told;
        takes = record {
          goes_on = record { number = refl; secret = refl };
          went = went;
          desk_is = desk_is;
          kinds = notices_kind session.number t from op;
          read = subst (λ (l : List RunTurn). AreReadFrom reads session.clock.now l session.clock.now) none refl;
          places = sym (append-nil session.places.items)
              ∙ ap (λ (l : List RunTurn). session.places.items ++ reply_places l) none;
          starved = ap (starved_after session.starved) none;
        };
        cursor = refl;
      }

  -- ---- calls

  -- it needs no turn, and nothing changed
  pub needs_none : NoTurnsChangeNothing (ties_run {D = D}) → (a : SessionAt K T) (invocation : Invocation)
      (came : Option OutcomeData)
      → NeedsNoTurn (secret_of a.session) a.session.number invocation came
      → CarriesOutCall sight desk_id reads (invocation, came) a a
  needs_none none a invocation came needs = record { turns = []; takes = takes_none none a; came = needs }

  -- it asks for a call of the run
  pub by_call_turn : (a b : SessionAt K T) (invocation : Invocation) (came : Option OutcomeData) (call : Call)
      (keys : Keys) → InvocationAsks (secret_of a.session) invocation (One call keys)
      → TakesCallTurn sight desk_id reads call keys a b came
      → CarriesOutCall sight desk_id reads (invocation, came) a b
  by_call_turn a b invocation came call keys asks (inl (lost, takes)) =
      record { turns = []; takes = takes; came = inl lost }
  by_call_turn a b invocation came call keys asks (inr (t, moment, op, told, takes)) = record {
    turns = t ∷ [];
    takes = takes;
    came = subst (λ (l : List RunTurn). CameBy (secret_of a.session) a.session.number l (invocation, came))
        (sym (call_one t a.session.number call (record { 0 = moment }) op))
        (record { call = call; keys = keys; moment = moment; asks = asks; op = op; told = told });
  }

  -- a turn was taken for a call: the clock was read, and the session noted the answer
  pub call_taken : (a b : SessionAt K T) (mid : ConsoleSession K) (t : RunTurn) (call : Call) (moment : ℕ)
      (answer : Answer) → t.op ≡ operation.Call a.session.number call (record { 0 = moment }) → t.answer ≡ answer → GoesOnAs a.session mid
      → mid.places.items ≡ a.session.places.items → mid.starved ≡ a.session.starved
      → reads a.session.clock.now moment mid.clock.now → NotesAnswer answer.said mid b.session
      → Went ties_run (sight a.desk) (t ∷ []) (sight b.desk) → desk_id b.desk ≡ desk_id a.desk
      → TakesTurns sight desk_id reads (t ∷ []) a b
  call_taken a b mid t call moment answer op is goes_on same_places same_starved told notes went desk_is =
      let one = sym (call_one t a.session.number call (record { 0 = moment }) op) in
      let noted = subst (λ (x : Answer). NotesAnswer x.said mid b.session) (sym is) notes in
      record {
        goes_on = goes_on_both a.session mid b.session goes_on noted.goes_on;
        went = went;
        desk_is = desk_is;
        kinds = call_kind t a.session.number call (record { 0 = moment }) op;
        read = subst (λ (l : List RunTurn). AreReadFrom reads a.session.clock.now l b.session.clock.now) one (
          mid.clock.now,
          subst (λ (o : Operation). reads a.session.clock.now (moment_of_call o) mid.clock.now) (sym op) told,
          noted.clock,
        );
        places = noted.places
            ∙ (ap (λ (l : List ℕ). l ++ places_by t.answer.said) same_places
            ∙ (ap (λ (l : List ℕ). a.session.places.items ++ l) (sym (append-nil (places_by t.answer.said)))
            ∙ ap (λ (l : List RunTurn). a.session.places.items ++ reply_places l) one));
        starved = noted.starved
            ∙ (ap (λ (n : ℕ). capped (n + starved_in_reply t.answer.said)) same_starved
            ∙ ap (λ (l : List RunTurn). starved_after a.session.starved l) one);
      }

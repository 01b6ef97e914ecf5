-- The turns of a door's WebSockets, among all that its session took.
use Rattle.std.proofs.Common.{◌≡◌, ℕ, Bool, true, false, List, [], ◌∷◌, ◌++◌, Option, None, refl, sym, ap, ◌∙◌, subst, append-nil, append_assoc}
use Rattle.std.specs.Bool.{MatchBool}
use Rattle.console_http.specs.Conversations.{conversation_of}
use Rattle.console_http.specs.Readings.{ConsoleAt, DoorAt}
use Rattle.console_http.specs.Sessions.{AskingAt, CallsAt, SteppingAt}
use Rattle.console_http.specs.Talks.{TalkStep, Answers, AsksRun, Begins, EndsHere, Hears, Upgrades, StaysAtDesk, Talks}
use Rattle.console_http.specs.Visits.{Visit, Waits, Welcomes, AsksDoor, EndsDoor, IsVisit, Keeps, KeepsToEnd, finds_end}
use Rattle.console_http.specs.declared.ends.ConnectionEnd.{ConnectionEnd}
use Rattle.console_http.specs.declared.ends.ConnectionEnd.TheVariants.{AtItsEnd, HungUp, RunEnded, Failed, Starved, Socket}
use Rattle.console_http.specs.declared.ends.DoorEnd.{DoorEnd}
use Rattle.console_http.specs.declared.ends.DoorEnd.TheVariants.{Closed, Finished, Fault, NoBuffers}
use Rattle.console_socket.specs.Sockets.{AreSocketEvents, AskedRun, IsSocketEvent, SocketEvent, SocketTalk, Stepped}
use Rattle.door_source.specs.declared.Doors.{Ghosts as DoorSays}
use Rattle.engine_core.specs.Beginnings.{ties_run}
use Rattle.engine_turns.specs.Told.{RunTurn}
use Rattle.rpc_envelope.specs.Turns.{Extends, Invoked}
use Rattle.turn_desk.specs.Laws.{NoTurnsChangeNothing, TurnsAddUp}
use Rattle.turn_desk.specs.Sights.{DeskId}
use Rattle.console_session.proofs.Carrying.{carried_none, takes_both, takes_none}
use Rattle.console_session.specs.CallTurns.{SessionSight}
use Rattle.console_session.specs.DoorSessions.{MakeSockets, MakesSocket}
use Rattle.console_session.specs.SocketSteps.{MakeEvents, MakesEvent, MakesStep}
use Rattle.console_session.specs.Sessions.{AsksForFinish, HasCarriedOut, SessionAt, TakesStep, TakesTurns, secret_of, session_at}
use Rattle.console_session.specs.declared.session.ConsoleSession.{ConsoleSession}

-- turns in front change nothing
later : (secret : Option (List ℕ)) (session : ℕ) (front others : List RunTurn) (visits : List Visit)
    → MakeSockets secret session visits others → MakeSockets secret session visits (front ++ others)
later secret session front others [] makes = tt
later secret session front others (Waits ∷ visits) makes = later secret session front others visits makes
later secret session front others (Welcomes steps end ∷ visits) (before, its, rest, are, its_are, more) = (
  front ++ before,
  its,
  rest,
  ap (λ (l : List RunTurn). front ++ l) are ∙ sym (append_assoc front before (its ++ rest)),
  its_are,
  more,
)

module _ {D T K : Type 0} (sight : T → SessionSight D) (desk_id : T → DeskId) (reads : K → ℕ → K → Type 0) {S : Type 0}
    (of : S → ConsoleSession K) where
  abbrev pub at_attending : CallsAt S T
  at_attending s desk first began invoked =
      HasCarriedOut sight desk_id reads (session_at (of first) began) invoked (session_at (of s) desk)

  abbrev pub asks_attending : AskingAt S T
  asks_attending s desk finished s' desk' =
      AsksForFinish sight desk_id reads (session_at (of s) desk) finished (session_at (of s') desk')

  abbrev pub moves_attending : SteppingAt S T
  moves_attending s desk step s' desk' =
      TakesStep sight desk_id reads step (session_at (of s) desk) (session_at (of s') desk')

  module _ (none : NoTurnsChangeNothing (ties_run {D = D})) (add_up : TurnsAddUp (ties_run {D = D}))
      {A : Type 0} (says : DoorSays A) (secret : Option (List ℕ)) (session : ℕ) where
    abbrev pub attending : DoorAt S T A → SessionAt K T
    attending place = session_at (of place.session) place.desk

    abbrev pub Takes : List RunTurn → SessionAt K T → SessionAt K T → Type 0
    Takes turns a b = TakesTurns sight desk_id reads turns a b

    -- the session has this number and this secret
    pub record IsThis (a : SessionAt K T) : Type 0 where
      pub number : a.session.number ≡ session
      pub secret_is : secret_of a.session ≡ secret

    pub still_this : (turns : List RunTurn) (a b : SessionAt K T) → IsThis a → Takes turns a b → IsThis b
    still_this turns a b this takes = record {
      number = takes.goes_on.number ∙ this.number;
      secret_is = takes.goes_on.secret ∙ this.secret_is;
    }

    pub both : (a m b : SessionAt K T) (first more : List RunTurn) → Takes first a m → Takes more m b → Takes (first ++ more) a b
    both a m b first more one other = takes_both sight desk_id reads add_up a m b first more one other

    -- ---- a socket

    record HasMade (event : SocketEvent) (a b : SessionAt K T) : Type 0 where
      turns : List RunTurn
      takes : Takes turns a b
      makes : MakesEvent secret session event turns a.session.cursor b.session.cursor

    pub record HasMadeAll (events : List SocketEvent) (a b : SessionAt K T) : Type 0 where
      pub turns : List RunTurn
      pub takes : Takes turns a b
      pub makes : MakeEvents secret session events turns a.session.cursor b.session.cursor

    event_made : (event : SocketEvent) (s : S) (d : T) (s' : S) (d' : T) → IsThis (session_at (of s) d)
        → IsSocketEvent at_attending asks_attending moves_attending event s d s' d'
        → HasMade event (session_at (of s) d) (session_at (of s') d')
    event_made (Stepped step) s d s' d' this is =
        let did = is.stepped in record {
          turns = did.turns;
          takes = did.takes;
          makes = subst (λ (key : Option (List ℕ)). MakesStep key session step did.turns (of s).cursor (of s').cursor)
              this.secret_is
              (subst (λ (n : ℕ). MakesStep (secret_of (of s)) n step did.turns (of s).cursor (of s').cursor) this.number
              did.makes);
        }
    event_made (AskedRun finished) s d s' d' this (asks, extends) = record {
      turns = asks.turn ∷ [];
      takes = asks.takes;
      makes = record { turn = asks.turn; only = refl; op = asks.op; answer = asks.answer; kept = asks.cursor };
    }

    pub events_made : (events : List SocketEvent) (s : S) (d : T) (s' : S) (d' : T) → IsThis (session_at (of s) d)
        → AreSocketEvents at_attending asks_attending moves_attending events s d s' d'
        → HasMadeAll events (session_at (of s) d) (session_at (of s') d')
    events_made [] s d s' d' this (same, desk_same) =
        let a = session_at (of s) d in
        subst (λ (x : S). HasMadeAll [] a (session_at (of x) d')) (sym same)
        (subst (λ (y : T). HasMadeAll [] a (session_at (of s) y)) (sym desk_same)
        (record { turns = []; takes = takes_none sight desk_id reads none a; makes = (refl, refl) }))
    events_made (event ∷ events) s d s' d' this (m, n, is, rest) =
        let a = session_at (of s) d in
        let middle = session_at (of m) n in
        let one = event_made event s d m n this is in
        let others = events_made events m n s' d' (still_this one.turns a middle this one.takes) rest in record {
          turns = one.turns ++ others.turns;
          takes = both a middle (session_at (of s') d') one.turns others.turns one.takes others.takes;
          makes = (one.turns, others.turns, (of m).cursor, refl, one.makes, others.makes);
        }

    -- ---- a connection

    record HasTalked (socket : Option SocketTalk) (a b : SessionAt K T) : Type 0 where
      before : List RunTurn
      its : List RunTurn
      takes : Takes (before ++ its) a b
      makes : MakesSocket secret session socket its

    -- turns alone
    no_socket : (turns : List RunTurn) (a b : SessionAt K T) → Takes turns a b → HasTalked None a b
    no_socket turns a b takes = record {
      before = turns;
      its = [];
      takes = subst (λ (l : List RunTurn). Takes l a b) (sym (append-nil turns)) takes;
      makes = refl;
    }

    -- .. in front
    behind : (socket : Option SocketTalk) (turns : List RunTurn) (a m b : SessionAt K T) → Takes turns a m
        → HasTalked socket m b → HasTalked socket a b
    behind socket turns a m b takes then = record {
      before = turns ++ then.before;
      its = then.its;
      takes = subst (λ (l : List RunTurn). Takes l a b) (sym (append_assoc turns then.before then.its))
          (both a m b turns (then.before ++ then.its) takes then.takes);
      makes = then.makes;
    }

    pub at_same : (a b : DoorAt S T A) → b.session ≡ a.session → b.desk ≡ a.desk → Takes [] (attending a) (attending b)
    at_same a b same desk_same =
        subst (λ (x : S). Takes [] (attending a) (session_at (of x) b.desk)) (sym same)
        (subst (λ (y : T). Takes [] (attending a) (session_at (of a.session) y)) (sym desk_same)
        (takes_none sight desk_id reads none (attending a)))

    pub stayed : (a b : DoorAt S T A) → StaysAtDesk at_attending asks_attending moves_attending says a b
        → Takes [] (attending a) (attending b)
    stayed a b stays = at_same a b stays.session stays.desk

    pub called : (a b : DoorAt S T A) (turns : List Invoked)
        → Extends (at_attending a.session a.desk) (at_attending b.session b.desk) turns
        → HasCarriedOut sight desk_id reads (attending a) turns (attending b)
    called a b turns extends = extends a.session a.desk [] (carried_none sight desk_id reads none (attending a))

    pub quiet : (end : ConnectionEnd) (a : ConsoleAt S T A) (b : DoorAt S T A)
        → EndsHere at_attending asks_attending moves_attending says end a b → Takes [] (attending a.place) (attending b)
    quiet AtItsEnd a b here = stayed a.place b here.1
    quiet Failed a b here = stayed a.place b here.1
    quiet Starved a b here = stayed a.place b here.0
    quiet HungUp a b here = absurd here
    quiet RunEnded a b here = absurd here
    quiet (Socket how) a b here = absurd here

    abbrev pub TalksOn : List TalkStep → ConnectionEnd → ConsoleAt S T A → DoorAt S T A → Type 0
    TalksOn steps end a b = Talks at_attending asks_attending moves_attending says steps end a b

    abbrev Talked : List TalkStep → DoorAt S T A → DoorAt S T A → Type 0
    Talked steps a b = HasTalked (conversation_of steps).socket (attending a) (attending b)

    -- the connection ended, or went on
    ended_or_on : (last : Bool) (steps : List TalkStep) (end how : ConnectionEnd) (m : ConsoleAt S T A) (b : DoorAt S T A)
        → (TalksOn steps end m b → Talked steps m.place b)
        → MatchBool last ((steps ≡ []) × (end ≡ how) × (b ≡ m.place)) (TalksOn steps end m b) → Talked steps m.place b
    ended_or_on true steps end how m b on is =
        subst (λ (place : DoorAt S T A). Talked steps m.place place) (sym is.2)
        (subst (λ (others : List TalkStep). Talked others m.place m.place) (sym is.0)
        (no_socket [] (attending m.place) (attending m.place) (takes_none sight desk_id reads none (attending m.place))))
    ended_or_on false steps end how m b on goes = on goes

    talked : (steps : List TalkStep) (end : ConnectionEnd) (a : ConsoleAt S T A) (b : DoorAt S T A) → IsThis (attending a.place)
        → TalksOn steps end a b → Talked steps a.place b
    talked [] end a b this here = no_socket [] (attending a.place) (attending b) (quiet end a b here)
    talked (Hears piece ∷ steps) end a b this (m, is, then) =
        let takes = stayed a.place m.place is.stays in
        behind (conversation_of steps).socket [] (attending a.place) (attending m.place) (attending b) takes
        (talked steps end m b (still_this [] (attending a.place) (attending m.place) this takes) then)
    talked (Answers request turns ∷ steps) end a b this (m, is, then) =
        let did = called a.place m.place turns is.responds.extends in
        let this' = still_this did.turns (attending a.place) (attending m.place) this did.takes in
        behind (conversation_of steps).socket did.turns (attending a.place) (attending m.place) (attending b) did.takes
        (ended_or_on _ steps end HungUp m b (λ more. talked steps end m b this' more) then)
    talked (AsksRun finished ∷ steps) end a b this (m, is, then) =
        let asked = is.asks_session.asked in
        let this' = still_this (asked.turn ∷ []) (attending a.place) (attending m.place) this asked.takes in
        behind (conversation_of steps).socket (asked.turn ∷ []) (attending a.place) (attending m.place) (attending b) asked.takes
        (ended_or_on finished steps end RunEnded m b (λ more. talked steps end m b this' more) then)
    talked (Begins request turns part ∷ steps) end a b this (is, last) =
        let did = called a.place b turns is.begins.extends in
        subst (λ (others : List TalkStep). Talked (Begins request turns part ∷ others) a.place b) (sym last)
        (no_socket did.turns (attending a.place) (attending b) did.takes)
    talked (Upgrades socket ∷ steps) end a b this (is, last) =
        let made = events_made socket.events a.place.session a.place.desk b.session b.desk this is.keeps.goes in
        subst (λ (others : List TalkStep). Talked (Upgrades socket ∷ others) a.place b) (sym last) (record {
          before = [];
          its = made.turns;
          takes = made.takes;
          makes = ((of a.place.session).cursor, (of b.session).cursor, made.makes);
        })

    -- ---- a door

    module _ (most : ℕ) where
      record HasKept (visits : List Visit) (a b : SessionAt K T) : Type 0 where
        turns : List RunTurn
        takes : Takes turns a b
        makes : MakeSockets secret session visits turns

      abbrev pub KeepsFrom : List Visit → DoorEnd → DoorAt S T A → DoorAt S T A → Type 0
      KeepsFrom visits end a b = Keeps at_attending asks_attending moves_attending says most visits end a b

      abbrev Kept : List Visit → DoorAt S T A → DoorAt S T A → Type 0
      Kept visits a b = HasKept visits (attending a) (attending b)

      -- turns alone, in front
      kept_behind : (visits : List Visit) (turns : List RunTurn) (a m b : SessionAt K T) → Takes turns a m → HasKept visits m b
          → HasKept visits a b
      kept_behind visits turns a m b takes then = record {
        turns = turns ++ then.turns;
        takes = both a m b turns then.turns takes then.takes;
        makes = later secret session turns then.turns visits then.makes;
      }

      kept_none : (a b : DoorAt S T A) → Takes [] (attending a) (attending b) → Kept [] a b
      kept_none a b takes = record { turns = []; takes = takes; makes = tt }

      ended : (end : DoorEnd) (a b : DoorAt S T A)
          → EndsDoor at_attending asks_attending moves_attending says most end a b → Kept [] a b
      ended Closed a b ends = kept_none a b (stayed a b ends.stays)
      ended (Fault count) a b ends = kept_none a b (stayed a b ends.0)
      ended Finished a b never = absurd never
      ended NoBuffers a b never = absurd never

      abbrev pub Stops : List Visit → DoorEnd → DoorAt S T A → DoorAt S T A → Type 0
      Stops visits end m b = (visits ≡ []) × (end ≡ Finished) × (b ≡ m)

      stopped : (visits : List Visit) (end : DoorEnd) (m b : DoorAt S T A) → Stops visits end m b → Kept visits m b
      stopped visits end m b is =
          subst (λ (place : DoorAt S T A). Kept visits m place) (sym is.2)
          (subst (λ (others : List Visit). Kept others m m) (sym is.0)
          (kept_none m m (takes_none sight desk_id reads none (attending m))))

      stops_or_goes : (finished : Bool) (visits : List Visit) (end : DoorEnd) (n b : DoorAt S T A)
          → (KeepsFrom visits end n b → Kept visits n b)
          → MatchBool finished (Stops visits end n b) (KeepsFrom visits end n b) → Kept visits n b
      stops_or_goes true visits end n b on stops = stopped visits end n b stops
      stops_or_goes false visits end n b on goes = on goes

      -- behind a visit
      asked_on : (found : Bool) (visits : List Visit) (end : DoorEnd) (m b : DoorAt S T A) → IsThis (attending m)
          → ((n : DoorAt S T A) → IsThis (attending n) → KeepsFrom visits end n b → Kept visits n b)
          → MatchBool found (Stops visits end m b)
          ((n : DoorAt S T A) × (finished : Bool) × AsksDoor at_attending asks_attending moves_attending says most finished m n
          × MatchBool finished (Stops visits end n b) (KeepsFrom visits end n b))
          → Kept visits m b
      asked_on true visits end m b this on stops = stopped visits end m b stops
      asked_on false visits end m b this on (n, finished, asks, more) =
          let asked = asks.asks_session.asked in
          let this' = still_this (asked.turn ∷ []) (attending m) (attending n) this asked.takes in
          kept_behind visits (asked.turn ∷ []) (attending m) (attending n) (attending b) asked.takes
          (stops_or_goes finished visits end n b (λ keeps. on n this' keeps) more)

      served : (steps : List TalkStep) (how : ConnectionEnd) (a m : DoorAt S T A) → IsThis (attending a)
          → IsVisit at_attending asks_attending moves_attending says most (Welcomes steps how) a m → Talked steps a m
      served steps how a m this (k, accepted, serves) =
          let came = stayed a k accepted.stays in
          let talk = talked steps how _ serves.closing (still_this [] (attending a) (attending k) this came) serves.talks in
          let closed = at_same serves.closing m serves.closes.session serves.closes.desk in
          let whole = both (attending k) (attending serves.closing) (attending m) (talk.before ++ talk.its) [] talk.takes closed in
          behind (conversation_of steps).socket [] (attending a) (attending k) (attending m) came (record {
            before = talk.before;
            its = talk.its;
            takes = subst (λ (l : List RunTurn). Takes l (attending k) (attending m)) (append-nil (talk.before ++ talk.its)) whole;
            makes = talk.makes;
          })

      kept : (visits : List Visit) (end : DoorEnd) (a b : DoorAt S T A) → IsThis (attending a) → KeepsFrom visits end a b
          → Kept visits a b
      kept [] end a b this ends = ended end a b ends
      kept (Waits ∷ visits) end a b this (m, is, rest) =
          let came = stayed a m is.0 in
          let this' = still_this [] (attending a) (attending m) this came in
          let others = kept_behind visits [] (attending a) (attending m) (attending b) came
          (asked_on false visits end m b this' (λ n at keeps. kept visits end n b at keeps) rest) in
          record { turns = others.turns; takes = others.takes; makes = others.makes }
      kept (Welcomes steps how ∷ visits) end a b this (m, is, rest) =
          let talk = served steps how a m this is in
          let this' = still_this (talk.before ++ talk.its) (attending a) (attending m) this talk.takes in
          let others = asked_on (finds_end (Welcomes steps how)) visits end m b this'
          (λ n at keeps. kept visits end n b at keeps) rest in
          record {
            turns = (talk.before ++ talk.its) ++ others.turns;
            takes = both (attending a) (attending m) (attending b) (talk.before ++ talk.its) others.turns talk.takes others.takes;
            makes = (
              talk.before,
              talk.its,
              others.turns,
              append_assoc talk.before talk.its others.turns,
              talk.makes,
              others.makes,
            );
          }

      pub kept_to_end : (visits : List Visit) (end : DoorEnd) (a b : DoorAt S T A) → IsThis (attending a)
          → KeepsToEnd at_attending asks_attending moves_attending says most visits end a b
          → (turns : List RunTurn) × Takes turns (attending a) (attending b) × MakeSockets secret session visits turns
      kept_to_end visits NoBuffers a b this (no_visits, same) =
          let stay = stopped visits Finished a b (no_visits, refl, same) in (stay.turns, stay.takes, stay.makes)
      kept_to_end visits Closed a b this keeps = let all = kept visits Closed a b this keeps in (all.turns, all.takes, all.makes)
      kept_to_end visits Finished a b this keeps =
          let all = kept visits Finished a b this keeps in (all.turns, all.takes, all.makes)
      kept_to_end visits (Fault count) a b this keeps =
          let all = kept visits (Fault count) a b this keeps in (all.turns, all.takes, all.makes)

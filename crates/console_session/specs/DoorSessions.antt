-- What a session did at the desk of a run, for the clients of its door.
use Rattle.std.specs.Prelude.{◌≡◌, ◌+◌, ℕ, Bool, true, false, IsTrue, List, [], ◌∷◌, ◌++◌, All, Option, Some, None}
use Rattle.std.specs.Bool.{MatchBool}
use Rattle.console_http.specs.Conversations.{IsServedBy, conversation_of}
use Rattle.console_http.specs.Talks.{TalkStep, Answers, AsksRun, Begins, Hears, Upgrades}
use Rattle.console_http.specs.Visits.{GainsTalks, RoseBy, Visit, Waits, Welcomes, capped, failed_in, faults_of_end, finds_end, starved_in, starved_of_end, turns_in}
use Rattle.console_http.specs.declared.ends.ConnectionEnd.{ConnectionEnd}
use Rattle.console_http.specs.declared.ends.ConnectionEnd.TheVariants.{RunEnded}
use Rattle.console_http.specs.declared.ends.DoorEnd.{DoorEnd}
use Rattle.console_socket.specs.Sockets.{SocketTalk}
use Rattle.console_http.specs.declared.ends.DoorEnd.TheVariants.{Closed, Finished, Fault, NoBuffers}
use Rattle.door_source.specs.declared.Doors.{Ghosts as DoorSays}
use Rattle.engine_core.specs.Beginnings.{ties_run}
use Rattle.engine_turns.specs.Told.{RunTurn}
use Rattle.engine_turns.specs.declared.operations.Operation.TheVariants.{Leave, Pulse}
use Rattle.machine_core.specs.declared.notices.Cursor.{Cursor}
use Rattle.turn_desk.specs.Sights.{Went}
use Rattle.console_session.specs.CallTurns.{AreReadFrom, CameInOrder, FindsFinish, IsOfSession, SessionSight, call_turns, is_finish, reply_places, starved_replies}
use Rattle.console_session.specs.SocketSteps.{MakeEvents}
use Rattle.console_session.specs.declared.serving.Transcript.{Transcript}

-- each connection was served as its end says, by whether the door tells what it received and sent
abbrev pub AreServed : Bool → ℕ → List Visit → Type 0
AreServed told most [] = Unit {0}
AreServed told most (Waits ∷ visits) = AreServed told most visits
AreServed told most (Welcomes steps end ∷ visits) =
    IsServedBy told most end (conversation_of steps) × AreServed told most visits

-- a connection that was cut off since the run was found finished is the last one, and so the door ended
abbrev pub EndsLast : List Visit → DoorEnd → Type 0
EndsLast [] end = Unit {0}
EndsLast (visit ∷ visits) end =
    MatchBool (finds_end visit) ((visits ≡ []) × (end ≡ Finished)) (EndsLast visits end)

-- ---- WebSockets

module _ (secret : Option (List ℕ)) (session : ℕ) where
  -- by these turns the events of a connection's WebSocket were made, one behind another
  abbrev pub MakesSocket : Option SocketTalk → List RunTurn → Type 0
  MakesSocket None turns = turns ≡ []
  MakesSocket (Some socket) turns =
      (from : Option Cursor) × (to : Option Cursor) × MakeEvents secret session socket.events turns from to

  -- among these turns stand those of the WebSocket of each connection, in order, each of them whole
  abbrev pub MakeSockets : List Visit → List RunTurn → Type 0
  MakeSockets [] turns = Unit {0}
  MakeSockets (Waits ∷ visits) turns = MakeSockets visits turns
  MakeSockets (Welcomes steps end ∷ visits) turns =
      (before : List RunTurn) × (its : List RunTurn) × (others : List RunTurn) × (turns ≡ before ++ (its ++ others))
      × MakesSocket (conversation_of steps).socket its × MakeSockets visits others

-- ---- askings

-- the turn asked whether the run is finished, and this was the answer
pub record AsksTurn (finished : Bool) (t : RunTurn) : Type 0 where
  pub op : t.op ≡ Pulse
  pub answer : finished ≡ is_finish t.answer.said

-- no turn is left and no visit, and the door ended since the run is finished
abbrev pub EndsFinished : DoorEnd → List Visit → List RunTurn → Type 0
EndsFinished end visits turns = (turns ≡ []) × (visits ≡ []) × (end ≡ Finished)

-- The next turn asks whether the run is finished, unless that was found; where it is, the door ends, and otherwise goes on.
abbrev pub AskOnce : (found : Bool) → (Ends GoesOn : List RunTurn → Type 0) → List RunTurn → Type 0
AskOnce true Ends GoesOn turns = Ends turns
AskOnce false Ends GoesOn turns =
    (t : RunTurn) × (others : List RunTurn) × (finished : Bool) × (turns ≡ t ∷ others) × AsksTurn finished t
    × MatchBool finished (Ends others) (GoesOn others)

module _ (secret : Option (List ℕ)) (session : ℕ) where
  -- By these turns the steps of a connection were made, in order: the calls of each request were carried out, each asking
  -- took one turn, and a WebSocket was kept. An asking that found the run finished is the last step, and ended the connection.
  abbrev pub MakesTalk : ConnectionEnd → List TalkStep → List RunTurn → Type 0
  MakesTalk end [] turns = turns ≡ []
  MakesTalk end (Hears piece ∷ steps) turns = MakesTalk end steps turns
  MakesTalk end (Answers request calls ∷ steps) turns =
      (its : List RunTurn) × (others : List RunTurn) × (turns ≡ its ++ others)
      × CameInOrder secret session (call_turns its) calls × MakesTalk end steps others
  MakesTalk end (AsksRun finished ∷ steps) turns =
      (t : RunTurn) × (others : List RunTurn) × (turns ≡ t ∷ others) × AsksTurn finished t
      × (finished ≡ true → (steps ≡ []) × (end ≡ RunEnded)) × MakesTalk end steps others
  MakesTalk end (Begins request calls part ∷ steps) turns = CameInOrder secret session (call_turns turns) calls
  MakesTalk end (Upgrades socket ∷ steps) turns = MakesSocket secret session (Some socket) turns

  abbrev pub MakesVisit : Visit → List RunTurn → Type 0
  MakesVisit Waits turns = turns ≡ []
  MakesVisit (Welcomes steps end) turns = MakesTalk end steps turns

  -- By these turns the visits were made, in order, and behind each it was asked once whether the run is finished, unless the
  -- visit had found that. Where it is, no turn and no visit comes any more, and the door ended for it.
  abbrev pub MakeVisits : DoorEnd → List Visit → List RunTurn → Type 0
  MakeVisits end [] turns = turns ≡ []
  MakeVisits end (visit ∷ visits) turns =
      (its : List RunTurn) × (behind : List RunTurn) × (turns ≡ its ++ behind) × MakesVisit visit its
      × AskOnce (finds_end visit) (EndsFinished end visits) (λ others. MakeVisits end visits others) behind

-- ---- a door

module _ {A : Type 0} (says : DoorSays A) where
  -- Why the door is served no more: no client comes any more, the last turn found the run finished, a call of the door
  -- failed, or the buffers couldn't be made.
  abbrev pub IsCauseOf : DoorEnd → List RunTurn → List Visit → A → Type 0
  IsCauseOf Closed turns visits door = IsTrue says.tells → (says.state door).is_closed ≡ true
  IsCauseOf Finished turns visits door = FindsFinish turns
  IsCauseOf (Fault count) turns visits door = count ≡ says.faults door
  IsCauseOf NoBuffers turns visits door = (turns ≡ []) × (visits ≡ [])

  -- By these turns the calls of a door's clients were carried out, from its first visit to its end.
  pub record ServesVisits (session : ℕ) (secret : Option (List ℕ)) (most : ℕ) (turns : List RunTurn) (door door' : A)
      (transcript : Transcript) : Type 0 where
    pub kinds : All (λ (t : RunTurn). IsOfSession session t.op) turns
    pub visits : List Visit
    pub end : DoorEnd
    pub served : AreServed says.tells most visits
    pub last : EndsLast visits end
    pub came : CameInOrder secret session (call_turns turns) (turns_in visits)
    pub sockets : MakeSockets secret session visits turns
    pub found : MakeVisits secret session end visits turns
    pub told : IsTrue says.tells → GainsTalks visits (says.state door) (says.state door')
    pub faults : RoseBy (failed_in visits + faults_of_end end) (says.faults door) (says.faults door')
    pub cause : IsCauseOf end turns visits door'
    pub session_is : transcript.session ≡ session
    pub places_are : transcript.places.items ≡ reply_places (call_turns turns)
    pub starved_is : transcript.starved
        ≡ capped (starved_in visits + starved_of_end end + starved_replies (call_turns turns))
    pub end_is : transcript.end ≡ end

  -- From the one sight to the other the session took the turns that serve the door, and a last one, by which it left.
  pub record ServesDoor {D : Type 0} (session : ℕ) (secret : Option (List ℕ)) (most : ℕ) (from : SessionSight D)
      (door : A) (to : SessionSight D) (door' : A) (transcript : Transcript) : Type 0 where
    pub before : List RunTurn
    pub last : RunTurn
    pub went : Went ties_run from (before ++ last ∷ []) to
    pub leaves : last.op ≡ Leave
    pub serves : ServesVisits session secret most before door door' transcript

-- For each call among the turns that were taken between, in order, the clock was read once, and told its moment.
pub record ReadsMoments {D K : Type 0} (reads : K → ℕ → K → Type 0) (clock : K) (from to : SessionSight D)
    : Type 0 where
  pub turns : List RunTurn
  pub took : to.own ≡ from.own ++ turns
  pub behind : K
  pub read : AreReadFrom reads clock (call_turns turns) behind

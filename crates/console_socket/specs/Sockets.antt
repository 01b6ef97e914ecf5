-- A WebSocket, from the request for it to its end.
use Rattle.std.specs.Prelude.{◌≡◌, ◌≢◌, ◌⊎◌, ℕ, Bool, true, IsTrue, All, List, [], ◌∷◌, ◌++◌, Some, None, unwrap_or, ⊤}
use Rattle.std.specs.List.{flat_map}
use Rattle.dl_kinds.specs.Counts.{Rose}
use Rattle.door_source.specs.Doors.{Connection, DoorState, Becomes}
use Rattle.door_source.specs.declared.Doors.{Ghosts as DoorSays}
use Rattle.request_stream.specs.Responses.{refusal_response}
use Rattle.request_stream.specs.declared.refusal.Refusal.TheVariants.{BadRequest}
use Rattle.rpc_envelope.specs.Turns.{Invoked, BeginsWith, Extends}
use Rattle.console_socket.specs.Frames.{SendsTexts, tells_all}
use Rattle.console_socket.specs.Places.{DoorAt}
use Rattle.console_socket.specs.Sessions.{CallsAt, AskingAt, SteppingAt, InwardData, joins, says, ticks, SocketStep, TakesSocketStep}
use Rattle.console_socket.specs.Upgrades.{IsWelcome, switching_response}
use Rattle.console_socket.specs.declared.ends.SocketEnd.{SocketEnd}
use Rattle.console_socket.specs.declared.ends.SocketEnd.TheVariants.{Finished, Closed, Refused, Broken, Failed, Starved}

pub data SocketEvent : Type 0 where
  -- the session took a step
  Stepped : SocketStep → SocketEvent
  -- it was asked whether the run is finished
  AskedRun : (finished : Bool) → SocketEvent

-- what happened, in order, and all bytes that were received and sent meanwhile
pub record SocketTalk : Type 0 where
  pub events : List SocketEvent
  pub received : List ℕ
  pub sent : List ℕ

-- ---- what the events tell

-- the calls that were carried out
abbrev pub turns_of_event : SocketEvent → List Invoked
turns_of_event (Stepped step) = step.turns
turns_of_event (AskedRun finished) = []

abbrev pub turns_of_socket : SocketTalk → List Invoked
turns_of_socket talk = flat_map turns_of_event talk.events

-- the texts that came
abbrev pub texts_said : InwardData → List (List ℕ)
texts_said joins = []
texts_said (says words) = words ∷ []
texts_said ticks = []

abbrev pub texts_to : SocketEvent → List (List ℕ)
texts_to (Stepped step) = texts_said step.inward
texts_to (AskedRun finished) = []

-- the texts to be sent
abbrev pub texts_from : SocketEvent → List (List ℕ)
texts_from (Stepped step) = unwrap_or step.texts []
texts_from (AskedRun finished) = []

abbrev pub texts_of_socket : SocketTalk → List (List ℕ)
texts_of_socket talk = flat_map texts_from talk.events

-- a step that doesn't join, or an asking
abbrev pub IsBehindJoining : SocketEvent → Type 0
IsBehindJoining (Stepped step) = step.inward ≢ joins
IsBehindJoining (AskedRun finished) = ⊤

-- the first step joins, and no other does
abbrev pub JoinsAtFirst : List SocketEvent → Type 0
JoinsAtFirst [] = ⊤
JoinsAtFirst (Stepped step ∷ events) = (step.inward ≡ joins) × All IsBehindJoining events
JoinsAtFirst (AskedRun finished ∷ events) = ⊥

-- behind a step for which memory was wanting nothing happens
abbrev pub StopsAtWant : SocketEnd → List SocketEvent → Type 0
StopsAtWant end [] = ⊤
StopsAtWant end (AskedRun finished ∷ events) = StopsAtWant end events
StopsAtWant end (Stepped step ∷ events) =
    (step.texts ≡ None → (events ≡ []) × (end ≡ Starved)) × StopsAtWant end events

-- The step that tells the notices comes next. Where the run is finished, and none is left, the socket ends with that step.
abbrev pub NoticesFollow : Bool → SocketEnd → List SocketEvent → Type 0
NoticesFollow finished end [] = ⊥
NoticesFollow finished end (AskedRun other ∷ events) = ⊥
NoticesFollow finished end (Stepped step ∷ events) =
    (step.inward ≡ ticks)
    × (finished ≡ true → step.texts ≡ Some [] → (events ≡ []) × (end ≡ Finished))

-- behind each asking the notices are told, and where that finds the finish nothing happens any more
abbrev pub StopsAtFinish : SocketEnd → List SocketEvent → Type 0
StopsAtFinish end [] = ⊤
StopsAtFinish end (Stepped step ∷ events) = StopsAtFinish end events
StopsAtFinish end (AskedRun finished ∷ events) =
    NoticesFollow finished end events × StopsAtFinish end events

-- at last it was found that the run is finished, and no notice was left behind that
pub record FindsFinish (events : List SocketEvent) : Type 0 where
  pub front : List SocketEvent
  pub step : SocketStep
  pub are : events ≡ front ++ AskedRun true ∷ Stepped step ∷ []
  pub inward : step.inward ≡ ticks
  pub none : step.texts ≡ Some []

-- ---- the whole

-- the request was refused (RFC 9110 section 15.5.1)
pub record TurnsAway (bytes : List ℕ) (talk : SocketTalk) (end : SocketEnd) : Type 0 where
  pub wrong : (used : ℕ) (key : List ℕ) → IsWelcome bytes used key → ⊥
  pub events : talk.events ≡ []
  pub received : talk.received ≡ []
  pub sent : BeginsWith (refusal_response BadRequest) talk.sent
  pub ends : ((end ≡ Refused) × (talk.sent ≡ refusal_response BadRequest)) ⊎ (end ≡ Failed) ⊎ (end ≡ Starved)

-- The request was answered as it asked, and that was sent first, and then all texts, as far as the door tells.
pub record Switches (told : Bool) (bytes : List ℕ) (talk : SocketTalk) (end : SocketEnd) : Type 0 where
  pub used : ℕ
  pub key : List ℕ
  pub welcome : IsWelcome bytes used key
  pub unrefused : end ≢ Refused
  pub begins : IsTrue told → BeginsWith talk.sent (switching_response key)
  pub texts : IsTrue told → tells_all end ≡ true
      → SendsTexts (switching_response key) (texts_of_socket talk) talk.sent

-- A front of the answer was sent, and nothing else.
pub record SwitchesInPart (bytes : List ℕ) (talk : SocketTalk) (end : SocketEnd) : Type 0 where
  pub used : ℕ
  pub key : List ℕ
  pub welcome : IsWelcome bytes used key
  pub events : talk.events ≡ []
  pub received : talk.received ≡ []
  pub front : BeginsWith (switching_response key) talk.sent
  pub ends : (end ≡ Failed) ⊎ (end ≡ Starved)

-- memory was wanting to read the request, or to answer it
pub record StarvesAtFirst (talk : SocketTalk) (end : SocketEnd) : Type 0 where
  pub ends : end ≡ Starved
  pub events : talk.events ≡ []
  pub received : talk.received ≡ []
  pub sent : talk.sent ≡ []

abbrev pub AnswersUpgrade : Bool → List ℕ → SocketTalk → SocketEnd → Type 0
AnswersUpgrade told bytes talk end =
    Switches told bytes talk end ⊎ SwitchesInPart bytes talk end ⊎ TurnsAway bytes talk end ⊎ StarvesAtFirst talk end

-- the newest connection received just these bytes, which its peer sends next, and was sent these
pub record GainsBytes (received sent : List ℕ) (old new : DoorState) : Type 0 where
  pub newest : Connection
  pub becomes : Becomes newest
      (record newest { received = newest.received ++ received; sent = newest.sent ++ sent }) old new
  pub next : BeginsWith newest.whole newest.received → BeginsWith newest.whole (newest.received ++ received)

-- .. or none, as no call was made
abbrev pub GainsTalk : SocketTalk → DoorState → DoorState → Type 0
GainsTalk talk old new =
    GainsBytes talk.received talk.sent old new ⊎ ((talk.received ≡ []) × (talk.sent ≡ []) × (new ≡ old))

abbrev pub CausesSocketEnd : SocketEnd → ℕ → ℕ → Type 0
CausesSocketEnd Finished before now = now ≡ before
CausesSocketEnd Closed before now = now ≡ before
CausesSocketEnd Refused before now = now ≡ before
CausesSocketEnd Broken before now = now ≡ before
CausesSocketEnd Failed before now = Rose before now
CausesSocketEnd Starved before now = now ≡ before

module _ {S T : Type 0} (at : CallsAt S T) (asks : AskingAt S T) (steps : SteppingAt S T) where
  -- what an event makes of session and desk
  abbrev pub IsSocketEvent : SocketEvent → S → T → S → T → Type 0
  IsSocketEvent (Stepped step) session desk session' desk' = TakesSocketStep at steps step session desk session' desk'
  IsSocketEvent (AskedRun finished) session desk session' desk' =
      asks session desk finished session' desk' × Extends (at session desk) (at session' desk') []

  -- these events, in order
  abbrev pub AreSocketEvents : List SocketEvent → S → T → S → T → Type 0
  AreSocketEvents [] session desk session' desk' = (session' ≡ session) × (desk' ≡ desk)
  AreSocketEvents (event ∷ events) session desk session' desk' =
      (m : S) × (n : T) × IsSocketEvent event session desk m n × AreSocketEvents events m n session' desk'

module _ {S T A : Type 0} (at : CallsAt S T) (asks : AskingAt S T) (steps : SteppingAt S T) (says : DoorSays A) where
  -- the events, their calls, what the door shows of it, and how the socket ended
  pub record KeepsSocket (most : ℕ) (bytes : List ℕ) (talk : SocketTalk) (end : SocketEnd)
      (a b : DoorAt S T A) : Type 0 where
    pub goes : AreSocketEvents at asks steps talk.events a.session a.desk b.session b.desk
    pub extends : Extends (at a.session a.desk) (at b.session b.desk) (turns_of_socket talk)
    pub joins : JoinsAtFirst talk.events
    pub stops : StopsAtWant end talk.events
    pub finishes : end ≡ Finished → FindsFinish talk.events
    pub stops_finished : StopsAtFinish end talk.events
    pub answers : AnswersUpgrade says.tells bytes talk end
    pub told : IsTrue says.tells → GainsTalk talk (says.state a.door) (says.state b.door)
    pub cause : CausesSocketEnd end (says.faults a.door) (says.faults b.door)

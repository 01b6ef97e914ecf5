-- What a conversation came to.
use Rattle.std.specs.Prelude.{◌≡◌, ◌⊎◌, ℕ, Bool, true, IsTrue, List, [], ◌∷◌, ◌++◌, Option, Some, None}
use Rattle.std.specs.List.{flat_map}
use Rattle.dl_kinds.specs.Counts.{Rose}
use Rattle.door_source.specs.Doors.{Connection, DoorState, Becomes, hung_up, met}
use Rattle.door_source.specs.declared.Doors.{Ghosts as DoorSays}
use Rattle.request_stream.specs.Requests.{Request, is_last, IsOneRequest}
use Rattle.request_stream.specs.Streams.{AreFront, AreRequests}
use Rattle.rpc_envelope.specs.Answers.{shared_out}
use Rattle.rpc_envelope.specs.Turns.{Invoked, Extends, outcomes_in}
use Rattle.console_http.specs.Answering.{CarriesOut, IsResponseBegun}
use Rattle.console_http.specs.Readings.{DoorAt, console_at, fresh_reading}
use Rattle.console_http.specs.Responding.{calls_in_request, response_to}
use Rattle.console_http.specs.Sessions.{AskingAt, CallsAt, SteppingAt}
use Rattle.console_http.specs.Talks.{TalkStep, Hears, Answers, AsksRun, Begins, Upgrades, Talks}
use Rattle.console_http.specs.Upgrading.{ArePlain, HasNoUpgrade, IsUpgraded}
use Rattle.console_http.specs.declared.ends.ConnectionEnd.{ConnectionEnd}
use Rattle.console_http.specs.declared.ends.ConnectionEnd.TheVariants.{AtItsEnd, HungUp, RunEnded, Failed, Starved, Socket}
use Rattle.console_socket.specs.Sockets.{CausesSocketEnd, SocketTalk, turns_of_socket}

-- All bytes that were received and sent, the requests that were answered, and the calls that were carried out, in order; and
-- the WebSocket as which the connection was kept behind the requests, where one of them asked for it.
pub record Conversation : Type 0 where
  pub received : List ℕ
  pub sent : List ℕ
  pub requests : List Request
  pub turns : List Invoked
  pub socket : Option SocketTalk

-- nothing was said
abbrev pub no_conversation : Conversation
no_conversation = record { received = []; sent = []; requests = []; turns = []; socket = None }

-- with a step in front
abbrev pub with_step : TalkStep → Conversation → Conversation
with_step (Hears piece) talk = record talk { received = piece ++ talk.received }
with_step (Answers request turns) talk =
    record talk {
      sent = response_to request (outcomes_in turns) ++ talk.sent;
      requests = request ∷ talk.requests;
      turns = turns ++ talk.turns;
    }
with_step (AsksRun finished) talk = talk
with_step (Begins request turns part) talk = record talk { sent = part ++ talk.sent; turns = turns ++ talk.turns }
with_step (Upgrades socket) talk =
    record talk {
      received = socket.received ++ talk.received;
      sent = socket.sent ++ talk.sent;
      turns = turns_of_socket socket ++ talk.turns;
      socket = Some socket;
    }

abbrev pub conversation_of : List TalkStep → Conversation
conversation_of [] = no_conversation
conversation_of (step ∷ steps) = with_step step (conversation_of steps)

-- ---- what was answered

-- the responses to requests, by what came of all their calls
abbrev pub responses : List Request → List Invoked → List ℕ
responses requests turns = shared_out calls_in_request response_to requests (outcomes_in turns)

-- All requests in the bytes that were received were answered, in order: just their calls were carried out, and just their
-- responses were sent. None of them asks for a WebSocket.
pub record IsServed (most : ℕ) (talk : Conversation) : Type 0 where
  pub requests : AreRequests most talk.received talk.requests
  pub plain : ArePlain most talk.received talk.requests
  pub carried : CarriesOut (flat_map calls_in_request talk.requests) talk.turns
  pub sent : talk.sent ≡ responses talk.requests talk.turns

-- .. behind the last one of them the connection ends
pub record EndsWithLast (requests : List Request) : Type 0 where
  pub front : List Request
  pub last : Request
  pub are : requests ≡ front ++ last ∷ []
  pub ends : is_last last ≡ true

-- the next request was not begun, or its response isn't complete
abbrev pub IsUnderWay : ℕ → List ℕ → List Invoked → List ℕ → Type 0
IsUnderWay most unread turns part =
    ((turns ≡ []) × (part ≡ []))
    ⊎ ((request : Request) × (used : ℕ) × IsOneRequest most unread request used × HasNoUpgrade unread
    × IsResponseBegun (calls_in_request request) (response_to request) turns part)

-- The first requests were answered, in order. Behind them came the rest of the bytes, the rest of the calls was carried out, and
-- the rest was sent, in this way.
pub record IsServedUpTo (way : List ℕ → List Invoked → List ℕ → Type 0) (most : ℕ) (talk : Conversation) : Type 0 where
  pub unread : List ℕ
  pub requests : AreFront most talk.received talk.requests unread
  pub plain : ArePlain most talk.received talk.requests
  pub mine : List Invoked
  pub more : List Invoked
  pub turns : talk.turns ≡ mine ++ more
  pub carried : CarriesOut (flat_map calls_in_request talk.requests) mine
  pub part : List ℕ
  pub sent : talk.sent ≡ responses talk.requests mine ++ part
  pub behind : way unread more part

-- The first requests were answered, in order. Of the next one maybe the first calls were carried out; behind all of them a
-- front of its response may have been sent.
abbrev pub IsServedInPart : ℕ → Conversation → Type 0
IsServedInPart most talk = IsServedUpTo (IsUnderWay most) most talk

-- .. by how the connection ended, and whether the door tells what it received and sent
abbrev pub IsServedBy : Bool → ℕ → ConnectionEnd → Conversation → Type 0
IsServedBy told most AtItsEnd talk = IsServed most talk
IsServedBy told most HungUp talk = IsServed most talk × EndsWithLast talk.requests
IsServedBy told most RunEnded talk = IsServed most talk
IsServedBy told most Failed talk = IsServedInPart most talk
IsServedBy told most Starved talk = IsServedInPart most talk
IsServedBy told most (Socket how) talk =
    (socket : SocketTalk) × (talk.socket ≡ Some socket)
    × IsServedUpTo (IsUpgraded told socket how) most talk

-- ---- at the door

-- the newest connection, of which nothing had been received or sent
pub record HasMet (door : DoorState) : Type 0 where
  pub earlier : List Connection
  pub whole : List ℕ
  pub connections : door.connections ≡ earlier ++ met whole ∷ []
  pub is_open : door.is_open ≡ true

-- .. had this conversation; all that its peer sends was received, where the connection is at its end
pub record HadTalk (end : ConnectionEnd) (talk : Conversation) (old new : DoorState) : Type 0 where
  pub whole : List ℕ
  pub becomes : Becomes (met whole) (record { received = talk.received; sent = talk.sent; whole = whole }) old new
  pub rest : List ℕ
  pub front : whole ≡ talk.received ++ rest
  pub all : end ≡ AtItsEnd → rest ≡ []

abbrev pub CausesEnd : ConnectionEnd → ℕ → ℕ → Type 0
CausesEnd Failed before now = Rose before now
CausesEnd (Socket how) before now = CausesSocketEnd how before now
CausesEnd end before now = now ≡ before

module _ {S T A : Type 0} (at : CallsAt S T) (asks : AskingAt S T) (moves : SteppingAt S T) (says : DoorSays A) where
  pub record ClosesConnection (a b : DoorAt S T A) : Type 0 where
    pub session : b.session ≡ a.session
    pub desk : b.desk ≡ a.desk
    pub told : IsTrue says.tells → says.state b.door ≡ hung_up (says.state a.door)
    pub faults : says.faults b.door ≡ says.faults a.door

  -- the steps of a conversation, what they came to, and what the door shows of it
  pub record Serves (most : ℕ) (steps : List TalkStep) (end : ConnectionEnd) (a b : DoorAt S T A) : Type 0 where
    pub closing : DoorAt S T A
    pub talks : Talks at asks moves says steps end (console_at a.session a.desk a.door (fresh_reading most)) closing
    pub closes : ClosesConnection closing b
    pub served : IsServedBy says.tells most end (conversation_of steps)
    pub extends : Extends (at a.session a.desk) (at b.session b.desk) (conversation_of steps).turns
    pub told : IsTrue says.tells → HadTalk end (conversation_of steps) (says.state a.door) (says.state closing.door)
    pub cause : CausesEnd end (says.faults a.door) (says.faults b.door)

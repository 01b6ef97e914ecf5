-- A conversation over a connection, step by step.
use Rattle.std.specs.Prelude.{◌≡◌, ℕ, Bool, true, false, List, [], ◌∷◌, ◌++◌, drop, Option, Some, None}
use Rattle.std.specs.Bool.{MatchBool}
use Rattle.door_source.specs.declared.Doors.{Ghosts as DoorSays}
use Rattle.request_stream.specs.Next.{IsUnfinishedRequest}
use Rattle.request_stream.specs.Requests.{Request, is_last, IsOneRequest}
use Rattle.request_stream.specs.Streams.{HasNoWholeRequest}
use Rattle.rpc_envelope.specs.Turns.{Invoked, Extends}
use Rattle.console_http.specs.Answering.{Responds, BeginsResponse}
use Rattle.console_http.specs.Readings.{Reading, DoorAt, ConsoleAt}
use Rattle.console_http.specs.Receiving.{ReceivesPiece, ReceivesAll, StaysSilent, BreaksDown}
use Rattle.console_http.specs.Responding.{calls_in_request, response_to}
use Rattle.console_http.specs.Sessions.{AskingAt, CallsAt, SteppingAt}
use Rattle.console_http.specs.Upgrading.{HasNoUpgrade}
use Rattle.console_http.specs.declared.answering.Advance.{Advance}
use Rattle.console_http.specs.declared.answering.Advance.TheVariants.{Answered, Waiting, Upgraded, Ended}
use Rattle.console_http.specs.declared.ends.ConnectionEnd.{ConnectionEnd}
use Rattle.console_http.specs.declared.ends.ConnectionEnd.TheVariants.{AtItsEnd, HungUp, RunEnded, Failed, Starved, Socket}
use Rattle.console_socket.specs.Sockets.{KeepsSocket, SocketTalk}
use Rattle.console_socket.specs.Upgrades.{IsUpgradeAt}
use Rattle.console_socket.specs.declared.ends.SocketEnd.{SocketEnd}

pub data TalkStep : Type 0 where
  -- bytes were received
  Hears : (piece : List ℕ) → TalkStep
  -- a request was answered
  Answers : (request : Request) → (turns : List Invoked) → TalkStep
  -- it was asked whether the run is finished
  AsksRun : (finished : Bool) → TalkStep
  -- a request was answered in part, or not at all
  Begins : (request : Request) → (turns : List Invoked) → (part : List ℕ) → TalkStep
  -- the connection was kept as a WebSocket
  Upgrades : (socket : SocketTalk) → TalkStep

-- each whole request that was received is answered, and the run was asked about since
pub record IsCaughtUp (reading : Reading) : Type 0 where
  pub none : HasNoWholeRequest reading.most reading.unread
  pub settled : reading.is_due ≡ false

module _ {S T : Type 0} (at : CallsAt S T) (asks : AskingAt S T) where
  -- it was asked whether the run is finished, and no call was carried out
  pub record AsksSession (finished : Bool) (session : S) (desk : T) (session' : S) (desk' : T) : Type 0 where
    pub asked : asks session desk finished session' desk'
    pub extends : Extends (at session desk) (at session' desk') []

  -- .. where a request was answered since it was last asked
  abbrev pub AsksIfDue : S → T → Reading → S → T → Reading → Bool → Type 0
  AsksIfDue session desk reading session' desk' reading' finished =
      MatchBool reading.is_due
      (AsksSession finished session desk session' desk' × (reading' ≡ record reading { is_due = false }))
      ((finished ≡ false) × (session' ≡ session) × (desk' ≡ desk) × (reading' ≡ reading))

module _ {S T A : Type 0} (at : CallsAt S T) (asks : AskingAt S T) (moves : SteppingAt S T) (says : DoorSays A) where
  -- neither a call nor an asking
  pub record StaysAtDesk (a b : DoorAt S T A) : Type 0 where
    pub session : b.session ≡ a.session
    pub desk : b.desk ≡ a.desk

  -- ---- steps

  pub record IsHearing (piece : List ℕ) (a b : ConsoleAt S T A) : Type 0 where
    pub settled : IsCaughtUp a.reading
    pub stays : StaysAtDesk a.place b.place
    pub receives : ReceivesPiece says piece a.place.door b.place.door
    pub reading : b.reading ≡ record a.reading { unread = a.reading.unread ++ piece }

  -- the request at the front
  pub record IsAnswering (request : Request) (turns : List Invoked) (a b : ConsoleAt S T A) : Type 0 where
    pub used : ℕ
    pub is : IsOneRequest a.reading.most a.reading.unread request used
    pub plain : HasNoUpgrade a.reading.unread
    pub responds : Responds at says (calls_in_request request) (response_to request) turns a.place b.place
    pub reading : b.reading ≡ record a.reading { unread = drop used a.reading.unread; is_due = true }

  -- where no whole request is left, and one was answered since the run was last asked about
  pub record IsAskingRun (finished : Bool) (a b : ConsoleAt S T A) : Type 0 where
    pub none : HasNoWholeRequest a.reading.most a.reading.unread
    pub due : a.reading.is_due ≡ true
    pub asks_session : AsksSession at asks finished a.place.session a.place.desk b.place.session b.place.desk
    pub door : b.place.door ≡ a.place.door
    pub reading : b.reading ≡ record a.reading { is_due = false }

  -- the request at the front, for the last time
  pub record IsBeginning (request : Request) (turns : List Invoked) (part : List ℕ) (end : ConnectionEnd)
      (a : ConsoleAt S T A) (b : DoorAt S T A) : Type 0 where
    pub used : ℕ
    pub is : IsOneRequest a.reading.most a.reading.unread request used
    pub plain : HasNoUpgrade a.reading.unread
    pub begins : BeginsResponse at says (calls_in_request request) (response_to request) turns part end a.place b

  -- the request at the front asks for a WebSocket, as which the connection was kept
  pub record IsUpgrading (socket : SocketTalk) (end : ConnectionEnd) (a : ConsoleAt S T A) (b : DoorAt S T A)
      : Type 0 where
    pub used : ℕ
    pub is : IsUpgradeAt a.reading.unread used
    pub how : SocketEnd
    pub end_is : end ≡ Socket how
    pub keeps : KeepsSocket at asks moves says a.reading.most a.reading.unread socket how a.place b

  -- between two steps
  abbrev pub EndsHere : ConnectionEnd → ConsoleAt S T A → DoorAt S T A → Type 0
  EndsHere AtItsEnd a b = IsCaughtUp a.reading × StaysAtDesk a.place b × ReceivesAll says a.place.door b.door
  EndsHere Failed a b = IsCaughtUp a.reading × StaysAtDesk a.place b × BreaksDown says a.place.door b.door
  EndsHere Starved a b = StaysAtDesk a.place b × StaysSilent says a.place.door b.door
  EndsHere HungUp a b = ⊥
  EndsHere RunEnded a b = ⊥
  EndsHere (Socket how) a b = ⊥

  -- ---- all steps

  -- these steps, in order, and then this end
  abbrev pub Talks : List TalkStep → ConnectionEnd → ConsoleAt S T A → DoorAt S T A → Type 0
  Talks [] end a b = EndsHere end a b
  Talks (Hears piece ∷ steps) end a b = (m : ConsoleAt S T A) × IsHearing piece a m × Talks steps end m b
  Talks (Answers request turns ∷ steps) end a b =
      (m : ConsoleAt S T A) × IsAnswering request turns a m
      × MatchBool (is_last request) ((steps ≡ []) × (end ≡ HungUp) × (b ≡ m.place)) (Talks steps end m b)
  Talks (AsksRun finished ∷ steps) end a b =
      (m : ConsoleAt S T A) × IsAskingRun finished a m
      × MatchBool finished ((steps ≡ []) × (end ≡ RunEnded) × (b ≡ m.place)) (Talks steps end m b)
  Talks (Begins request turns part ∷ steps) end a b = IsBeginning request turns part end a b × (steps ≡ [])
  Talks (Upgrades socket ∷ steps) end a b = IsUpgrading socket end a b × (steps ≡ [])

  abbrev pub TalksToEnd : ConnectionEnd → ConsoleAt S T A → DoorAt S T A → Type 0
  TalksToEnd end a b = (steps : List TalkStep) × Talks steps end a b

  -- from the one a conversation can go on as from the other
  abbrev pub TalksOn : ConsoleAt S T A → ConsoleAt S T A → Type 0
  TalksOn a b = (end : ConnectionEnd) (c : DoorAt S T A) → TalksToEnd end b c → TalksToEnd end a c

  abbrev pub HasTalkedOn : ConsoleAt S T A → ConsoleAt S T A → Option ConnectionEnd → Type 0
  HasTalkedOn a b None = TalksOn a b
  HasTalkedOn a b (Some end) = TalksToEnd end a b.place

  -- what a look at the front came to
  abbrev pub HasAdvanced : ConsoleAt S T A → ConsoleAt S T A → Advance → Type 0
  HasAdvanced a b Answered = TalksOn a b
  HasAdvanced a b Waiting = (b ≡ a) × IsUnfinishedRequest a.reading.most a.reading.unread
  HasAdvanced a b Upgraded = (b ≡ a) × ((used : ℕ) × IsUpgradeAt a.reading.unread used)
  HasAdvanced a b (Ended end) = TalksToEnd end a b.place

-- What a session does over a WebSocket, round by round.
use Rattle.std.specs.Prelude.{◌≡◌, ◌≢◌, ◌↔◌, ℕ, Bool, false, IsSome, All, List, [], ◌∷◌, ◌++◌, Option, Some, None, unwrap_or, ⊤}
use Rattle.std.specs.List.{flat_map}
use Rattle.rpc_envelope.specs.Turns.{Invoked, Extends}
use Rattle.tungstenite.specs.Socket.{Socket}
use Rattle.console_socket.specs.Frames.{tells_all}
use Rattle.console_socket.specs.Hearing.{CutsOff, EndsBy, EndsKnown, is_failing}
use Rattle.console_socket.specs.Sending.{SaysTexts, ServesTexts}
use Rattle.console_socket.specs.Sessions.{CallsAt, AskingAt, SteppingAt, SocketStep, TakesSocketStep, joins, seen_inward}
use Rattle.console_socket.specs.Sockets.{SocketEvent, Stepped, AskedRun, AreSocketEvents, FindsFinish, IsBehindJoining, JoinsAtFirst, StopsAtFinish, StopsAtWant, texts_from, turns_of_event}
use Rattle.console_socket.specs.declared.ends.SocketEnd.{SocketEnd}
use Rattle.console_socket.specs.declared.ends.SocketEnd.TheVariants.{Finished, Starved}
use Rattle.console_socket.specs.declared.session.Inward.{Inward}
use Rattle.console_socket.specs.declared.stream.Trouble.{Trouble}
use Rattle.console_socket.specs.declared.talking.Told.{Told}
use Rattle.console_socket.specs.declared.talking.Told.TheVariants.{Sent, Ended}

-- memory sufficed for the step
abbrev pub IsWhole : SocketEvent → Type 0
IsWhole (Stepped step) = IsSome step.texts
IsWhole (AskedRun finished) = ⊤

abbrev pub turns_of_events : List SocketEvent → List Invoked
turns_of_events events = flat_map turns_of_event events

abbrev pub texts_of_events : List SocketEvent → List (List ℕ)
texts_of_events events = flat_map texts_from events

-- the finish isn't found by these events, whatever follows
abbrev pub PassesFinish : List SocketEvent → Type 0
PassesFinish events =
    (end : SocketEnd) (more : List SocketEvent) → StopsAtFinish end more
    → StopsAtFinish end (events ++ more)

-- these events go on
pub record EventsGoOn (events : List SocketEvent) (trouble : Trouble) : Type 0 where
  pub whole : All IsWhole events
  pub passes : PassesFinish events
  pub sound : is_failing trouble ≡ false

-- these events end so
pub record EventsEnd (events : List SocketEvent) (end : SocketEnd) (trouble : Trouble) : Type 0 where
  pub stops : StopsAtWant end events
  pub finishes : end ≡ Finished → FindsFinish events
  pub stops_finished : StopsAtFinish end events
  pub by : EndsBy end trouble

abbrev pub EndsRound : List SocketEvent → Option SocketEnd → Trouble → Type 0
EndsRound events None trouble = EventsGoOn events trouble
EndsRound events (Some end) trouble = EventsEnd events end trouble

module _ {X : Type 0} (tells : Bool) (good : X → List ℕ) where
  -- its texts were sent, some or none
  pub record StepIsTold (step : SocketStep) (some : Bool) (trouble : Trouble) (old new : Socket X) : Type 0 where
    pub whole : IsSome step.texts
    pub none : (some ≡ false) ↔ (step.texts ≡ Some [])
    pub sound : is_failing trouble ≡ false
    pub sends : SaysTexts tells good (unwrap_or step.texts []) old new

  -- the socket ended: by want of memory for the texts, or as some were sent
  pub record StepIsCutOff (step : SocketStep) (end : SocketEnd) (trouble : Trouble) : Type 0 where
    pub starved : step.texts ≡ None → end ≡ Starved
    pub some : step.texts ≢ Some []
    pub cut : CutsOff end trouble
    pub lacks : tells_all end ≡ false

  abbrev pub IsToldBy : SocketStep → Told → Trouble → Socket X → Socket X → Type 0
  IsToldBy step (Sent some) trouble old new = StepIsTold step some trouble old new
  IsToldBy step (Ended end) trouble old new = StepIsCutOff step end trouble

  -- the texts were sent, or the socket ended
  abbrev pub SendsRound : List (List ℕ) → Option SocketEnd → Trouble → Socket X → Socket X → Type 0
  SendsRound texts None trouble old new = ServesTexts tells good texts old new
  SendsRound texts (Some end) trouble old new = EndsKnown tells good texts end trouble old new

-- where a session, its desk and its socket are
pub record SocketAt (S T X : Type 0) : Type 0 where
  pub session : S
  pub desk : T
  pub socket : Socket X

abbrev pub socket_at : {S T X : Type 0} → S → T → Socket X → SocketAt S T X
socket_at {S} {T} {X} session desk socket = record { session = session; desk = desk; socket = socket }

module _ {S T : Type 0} (at : CallsAt S T) (steps : SteppingAt S T) {X : Type 0} (tells : Bool) (good : X → List ℕ) where
  pub record HasTold (inward : Inward) (told : Told) (trouble : Trouble) (a b : SocketAt S T X) : Type 0 where
    pub step : SocketStep
    pub takes : TakesSocketStep at steps step a.session a.desk b.session b.desk
    pub inward_is : step.inward ≡ seen_inward inward
    pub by : IsToldBy tells good step told trouble a.socket b.socket

module _ {S T : Type 0} (at : CallsAt S T) (asks : AskingAt S T) (steps : SteppingAt S T) where
  -- these events carry session and desk on
  pub record CarryOn (events : List SocketEvent) (session : S) (desk : T) (session' : S) (desk' : T) : Type 0 where
    pub goes : AreSocketEvents at asks steps events session desk session' desk'
    pub extends : Extends (at session desk) (at session' desk') (turns_of_events events)

module _ {S T : Type 0} (at : CallsAt S T) (asks : AskingAt S T) (steps : SteppingAt S T) {X : Type 0} (tells : Bool) (good : X → List ℕ) where
  pub record HasRounded (end : Option SocketEnd) (trouble : Trouble) (a b : SocketAt S T X) : Type 0 where
    pub events : List SocketEvent
    pub carry : CarryOn at asks steps events a.session a.desk b.session b.desk
    pub behind : All IsBehindJoining events
    pub ends : EndsRound events end trouble
    pub sends : SendsRound tells good (texts_of_events events) end trouble a.socket b.socket

  -- it joined, and went on
  pub record GoesOn (trouble : Trouble) (a b : SocketAt S T X) : Type 0 where
    pub events : List SocketEvent
    pub carry : CarryOn at asks steps events a.session a.desk b.session b.desk
    pub first : SocketStep
    pub others : List SocketEvent
    pub are : events ≡ Stepped first ∷ others
    pub joined : first.inward ≡ joins
    pub behind : All IsBehindJoining others
    pub leads : EventsGoOn events trouble
    pub sends : ServesTexts tells good (texts_of_events events) a.socket b.socket

  pub record Converses (end : SocketEnd) (trouble : Trouble) (a b : SocketAt S T X) : Type 0 where
    pub events : List SocketEvent
    pub carry : CarryOn at asks steps events a.session a.desk b.session b.desk
    pub joined : JoinsAtFirst events
    pub ends : EventsEnd events end trouble
    pub sends : EndsKnown tells good (texts_of_events events) end trouble a.socket b.socket

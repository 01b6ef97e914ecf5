-- The parts of keeping a socket.
use Rattle.std.specs.Prelude.{◌≡◌, ◌≢◌, ◌⊎◌, ℕ, Bool, true, false, IsTrue, List, [], ◌∷◌}
use Rattle.dl_kinds.specs.declared.outside.IoErr.{IoErr}
use Rattle.dl_kinds.specs.declared.outside.IoErr.TheVariants.{Fault, NoMemory}
use Rattle.door_source.specs.Doors.{Connection, DoorState}
use Rattle.door_source.specs.declared.Doors.{Ghosts as DoorSays}
use Rattle.request_stream.specs.Responses.{refusal_response}
use Rattle.request_stream.specs.declared.refusal.Refusal.TheVariants.{BadRequest}
use Rattle.rpc_envelope.specs.Turns.{BeginsWith, Extends}
use Rattle.console_socket.specs.Frames.{HaveFrames, SendsTexts, tells_all}
use Rattle.console_socket.specs.Places.{DoorAt}
use Rattle.console_socket.specs.Sessions.{CallsAt, AskingAt, SteppingAt}
use Rattle.console_socket.specs.Sockets.{SocketTalk, AreSocketEvents, CausesSocketEnd, FindsFinish, GainsTalk, JoinsAtFirst, SocketEvent, StopsAtFinish, StopsAtWant, texts_of_socket, turns_of_socket}
use Rattle.console_socket.specs.Streams.{IsFurther, counts_as, good_of, is_failing}
use Rattle.console_socket.specs.Talking.{CarryOn, EventsEnd, texts_of_events}
use Rattle.console_socket.specs.Upgrades.{switching_text}
use Rattle.console_socket.specs.declared.ends.SocketEnd.{SocketEnd}
use Rattle.console_socket.specs.declared.ends.SocketEnd.TheVariants.{Finished, Refused, Failed, Starved}
use Rattle.console_socket.specs.declared.stream.Trouble.{Trouble}

abbrev pub end_by_error : IoErr → SocketEnd
end_by_error Fault = Failed
end_by_error NoMemory = Starved

-- all but the last one
abbrev pub front_of : List Connection → List Connection
front_of [] = []
front_of (connection ∷ []) = []
front_of (connection ∷ other ∷ others) = connection ∷ front_of (other ∷ others)

-- at an end before which all texts were sent, their frames stand in these bytes
abbrev pub KnowsTexts : Bool → List (List ℕ) → SocketEnd → Trouble → List ℕ → Type 0
KnowsTexts tells texts end trouble bytes =
    tells_all end ≡ true → (is_failing trouble ≡ false) × (IsTrue tells → HaveFrames texts bytes)

module _ {S T : Type 0} (at : CallsAt S T) (asks : AskingAt S T) (steps : SteppingAt S T) where
  -- a socket was kept over a stream that began with this connection, and the door shows this behind it
  pub record KeepsStream (tells : Bool) (earlier : List Connection) (newest : Connection) (is_closed : Bool) (faults : ℕ)
      (end : SocketEnd) (session : S) (desk : T) (session' : S) (desk' : T) (door : DoorState) (now : ℕ) : Type 0 where
    pub trouble : Trouble
    pub put : ℕ
    pub events : List SocketEvent
    pub carry : CarryOn at asks steps events session desk session' desk'
    pub joined : JoinsAtFirst events
    pub ends : EventsEnd events end trouble
    pub texts : KnowsTexts tells (texts_of_events events) end trouble (good_of put newest door)
    pub told : ∥ (IsTrue tells → IsFurther earlier newest is_closed put (is_failing trouble) door) ∥₁
    pub counts : counts_as trouble faults now ≡ true

-- the refusal was sent, or a front of it
module _ {A : Type 0} (says : DoorSays A) where
  pub record HasRefused (end : SocketEnd) (old new : A) : Type 0 where
    pub sent : List ℕ
    pub front : BeginsWith (refusal_response BadRequest) sent
    pub ends : ((end ≡ Refused) × (sent ≡ refusal_response BadRequest)) ⊎ (end ≡ Failed) ⊎ (end ≡ Starved)
    pub told : IsTrue says.tells → GainsTalk (record { events = []; received = []; sent = sent }) (says.state old) (says.state new)
    pub cause : CausesSocketEnd end (says.faults old) (says.faults new)

module _ {S T A : Type 0} (at : CallsAt S T) (asks : AskingAt S T) (steps : SteppingAt S T) (says : DoorSays A) where
  -- the answer was sent, and the socket kept behind it; or a front of the answer, and no more
  abbrev pub IsSwitchedBy : List ℕ → SocketTalk → SocketEnd → Type 0
  IsSwitchedBy accept talk end =
      ((end ≢ Refused) × (IsTrue says.tells → BeginsWith talk.sent (switching_text accept))
      × (IsTrue says.tells → tells_all end ≡ true → SendsTexts (switching_text accept) (texts_of_socket talk) talk.sent))
      ⊎ ((talk.events ≡ []) × (talk.received ≡ []) × BeginsWith (switching_text accept) talk.sent × ((end ≡ Failed) ⊎ (end ≡ Starved)))

  pub record HasSwitched (accept : List ℕ) (end : SocketEnd) (a b : DoorAt S T A) : Type 0 where
    pub talk : SocketTalk
    pub goes : AreSocketEvents at asks steps talk.events a.session a.desk b.session b.desk
    pub extends : Extends (at a.session a.desk) (at b.session b.desk) (turns_of_socket talk)
    pub joins : JoinsAtFirst talk.events
    pub stops : StopsAtWant end talk.events
    pub finishes : end ≡ Finished → FindsFinish talk.events
    pub stops_finished : StopsAtFinish end talk.events
    pub switched : IsSwitchedBy accept talk end
    pub told : IsTrue says.tells → GainsTalk talk (says.state a.door) (says.state b.door)
    pub cause : CausesSocketEnd end (says.faults a.door) (says.faults b.door)

-- What is heard and said over a WebSocket, and by what.
use Rattle.std.specs.Prelude.{◌≡◌, ◌≢◌, ◌↔◌, ◌⊎◌, ℕ, Bool, true, false, IsTrue, List, [], Option, Some, None, Result, Ok, Err}
use Rattle.tungstenite.specs.Socket.{Socket, Flushed, Reads}
use Rattle.tungstenite.specs.declared.error.Error.{Error}
use Rattle.tungstenite.specs.declared.error.Error.TheVariants.{Io as IoError, OutOfMemory}
use Rattle.tungstenite.specs.declared.message.Message.{Message}
use Rattle.tungstenite.specs.declared.message.Message.TheVariants.{Text as TextMessage, Binary as BinaryMessage, Ping as PingMessage, Pong as PongMessage, Close as CloseMessage}
use Rattle.console_socket.specs.Frames.{tells_all}
use Rattle.console_socket.specs.Sending.{WeavesTexts, SaysTexts, ServesTexts}
use Rattle.console_socket.specs.Streams.{is_failing as is_cut_off}
use Rattle.console_socket.specs.declared.ends.SocketEnd.{SocketEnd}
use Rattle.console_socket.specs.declared.ends.SocketEnd.TheVariants.{Finished, Refused, Broken as BrokenEnd, Closed as ClosedEnd, Failed as FailedEnd, Starved as StarvedEnd}
use Rattle.console_socket.specs.declared.hearing.Came.{Came}
use Rattle.console_socket.specs.declared.hearing.Came.TheVariants.{Text as TextCame, Other as OtherCame, Quiet as QuietCame, Closed as ClosedCame, Broken as BrokenCame, Starved as StarvedCame}
use Rattle.console_socket.specs.declared.hearing.Heard.{Heard}
use Rattle.console_socket.specs.declared.hearing.Heard.TheVariants.{Text, Other, Quiet as QuietHeard, Ended as EndedHeard}
use Rattle.console_socket.specs.declared.stream.Trouble.{Trouble}
use Rattle.console_socket.specs.declared.stream.Trouble.TheVariants.{Nothing, Quiet, Ended, Failed, Starved}

abbrev pub is_failing : Trouble → Bool
is_failing trouble = is_cut_off trouble

-- a socket ends since a call of the door failed just where one did
abbrev pub EndsBy : SocketEnd → Trouble → Type 0
EndsBy end trouble = ((end ≡ FailedEnd) ↔ (trouble ≡ Failed)) × (end ≢ Refused)

-- .. and not since the run is finished
abbrev pub CutsOff : SocketEnd → Trouble → Type 0
CutsOff end trouble = (end ≢ Finished) × EndsBy end trouble

-- the stream goes on, or the socket ends by it
abbrev pub HasHeard : Heard → Trouble → Type 0
HasHeard (Text text) trouble = is_failing trouble ≡ false
HasHeard Other trouble = is_failing trouble ≡ false
HasHeard QuietHeard trouble = is_failing trouble ≡ false
HasHeard (EndedHeard end) trouble = CutsOff end trouble

-- ---- by what

abbrev pub came_by_message : Message → Came
came_by_message (TextMessage text) = TextCame text
came_by_message (BinaryMessage bytes) = OtherCame
came_by_message (PingMessage bytes) = OtherCame
came_by_message (PongMessage bytes) = OtherCame
came_by_message (CloseMessage frame) = ClosedCame

-- the bytes were refused, or the message was too large, unless a call of the stream failed, or memory was wanting
abbrev pub came_by_error : Error → Came
came_by_error (IoError cause) = QuietCame
came_by_error OutOfMemory = StarvedCame
came_by_error other = BrokenCame

-- by the trouble of the stream
abbrev pub SaysBy : Option SocketEnd → Trouble → Type 0
SaysBy None trouble = is_failing trouble ≡ false
SaysBy (Some end) trouble = CutsOff end trouble × (tells_all end ≡ false)

-- the peer closed, or sends no more, unless a message was lost at that
abbrev pub heard_at_end : Came → Heard
heard_at_end (TextCame text) = EndedHeard ClosedEnd
heard_at_end OtherCame = EndedHeard ClosedEnd
heard_at_end QuietCame = EndedHeard ClosedEnd
heard_at_end ClosedCame = EndedHeard ClosedEnd
heard_at_end BrokenCame = EndedHeard BrokenEnd
heard_at_end StarvedCame = EndedHeard StarvedEnd

abbrev pub heard_going : Came → Heard
heard_going (TextCame text) = Text text
heard_going OtherCame = Other
heard_going QuietCame = QuietHeard
heard_going ClosedCame = EndedHeard ClosedEnd
heard_going BrokenCame = EndedHeard BrokenEnd
heard_going StarvedCame = EndedHeard StarvedEnd

abbrev pub heard_by : Trouble → Came → Heard
heard_by Nothing came = heard_going came
heard_by Quiet came = heard_going came
heard_by Ended came = heard_at_end came
heard_by Failed came = EndedHeard FailedEnd
heard_by Starved came = EndedHeard StarvedEnd

module _ {X : Type 0} (remaining contents : X → Option (List ℕ)) where
  -- the message was read, or this failure, behind all that waited to be sent
  pub record ReadsBehind (given : Result Message Error) (old new : Socket X) : Type 0 where
    pub middle : Socket X
    pub flushed : Flushed contents old middle
    pub empty : middle.output ≡ []
    pub reads : Reads remaining middle new given

  -- a message was read, and a reply to it was sent, if it asked for one
  pub record ReadsMessage (came : Came) (old new : Socket X) : Type 0 where
    pub message : Message
    pub middle : Socket X
    pub reads : ReadsBehind (Ok message) old middle
    pub came_is : came ≡ came_by_message message
    pub replies : Flushed contents middle new
    pub empty : new.output ≡ []

  pub record ReadsError (came : Came) (old new : Socket X) : Type 0 where
    pub error : Error
    pub reads : ReadsBehind (Err error) old new
    pub came_is : came ≡ came_by_error error

  abbrev pub HasRead : Came → Socket X → Socket X → Type 0
  HasRead came old new =
      ReadsMessage came old new ⊎ ReadsError came old new ⊎ (came ≡ StarvedCame)

  -- it was heard by what was read, and by the trouble of the stream
  pub record Hears (heard : Heard) (trouble : Trouble) (old new : Socket X) : Type 0 where
    pub came : Came
    pub read : HasRead came old new
    pub heard_is : heard ≡ heard_by trouble came

module _ {X : Type 0} (tells : Bool) (good : X → List ℕ) where
  -- the socket ended, by a stream that is still known if all texts were sent
  abbrev pub EndsKnown : List (List ℕ) → SocketEnd → Trouble → Socket X → Socket X → Type 0
  EndsKnown texts end trouble old new =
      tells_all end ≡ true → (is_failing trouble ≡ false) × (IsTrue tells → WeavesTexts good texts old new)

  -- no text was sent
  abbrev pub HearsOn : Heard → Trouble → Socket X → Socket X → Type 0
  HearsOn (Text text) trouble old new = ServesTexts tells good [] old new
  HearsOn Other trouble old new = ServesTexts tells good [] old new
  HearsOn QuietHeard trouble old new = ServesTexts tells good [] old new
  HearsOn (EndedHeard end) trouble old new = EndsKnown [] end trouble old new

  -- the texts were sent, or the socket ended as a call failed, or for want of memory
  abbrev pub HasSaid : List (List ℕ) → Option SocketEnd → Trouble → Socket X → Socket X → Type 0
  HasSaid texts None trouble old new = (is_failing trouble ≡ false) × SaysTexts tells good texts old new
  HasSaid texts (Some end) trouble old new = CutsOff end trouble × (tells_all end ≡ false)

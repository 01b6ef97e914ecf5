-- The frames that are sent over a WebSocket (RFC 6455 section 5.2).
use Rattle.std.specs.Prelude.{◌≡◌, ℕ, Bool, true, false, List, [], ◌∷◌, ◌++◌, None}
use Rattle.std.specs.List.{flat_map}
use Rattle.websocket.specs.Connection.{whole_header}
use Rattle.websocket.specs.Frame.{encode_frame}
use Rattle.websocket.specs.declared.protocol.frame.coding.Control.{Control}
use Rattle.websocket.specs.declared.protocol.frame.coding.Data.TheVariants.{Text}
use Rattle.websocket.specs.declared.protocol.frame.coding.OpCode.TheVariants.{Data, Control as ControlCode}
use Rattle.console_socket.specs.declared.ends.SocketEnd.{SocketEnd}
use Rattle.console_socket.specs.declared.ends.SocketEnd.TheVariants.{Finished, Closed, Refused, Broken, Failed, Starved}

-- the one frame of a text, which is the last one of its message, and not masked
abbrev pub text_frame : List ℕ → List ℕ
text_frame text = encode_frame (whole_header (Data Text) None) text

-- the frame of a pong, or of a close
abbrev pub control_frame : Control → List ℕ → List ℕ
control_frame control payload = encode_frame (whole_header (ControlCode control) None) payload

-- the end of such a frame
pub record EndsControl (bytes : List ℕ) : Type 0 where
  pub control : Control
  pub payload : List ℕ
  pub front : List ℕ
  pub are : control_frame control payload ≡ front ++ bytes

-- what is sent: a text, or an answer to a ping or to a close
pub data SentPiece : Type 0 where
  TextSent : (text : List ℕ) → SentPiece
  ReplySent : (bytes : List ℕ) → EndsControl bytes → SentPiece

abbrev pub sent_bytes_of : SentPiece → List ℕ
sent_bytes_of (TextSent text) = text_frame text
sent_bytes_of (ReplySent bytes ends) = bytes

abbrev pub sent_texts_of : SentPiece → List (List ℕ)
sent_texts_of (TextSent text) = text ∷ []
sent_texts_of (ReplySent bytes ends) = []

-- the bytes are the frames of these texts, in order, with answers to pings and closes between them
pub record HaveFrames (texts : List (List ℕ)) (bytes : List ℕ) : Type 0 where
  pub pieces : List SentPiece
  pub texts_are : flat_map sent_texts_of pieces ≡ texts
  pub bytes_are : flat_map sent_bytes_of pieces ≡ bytes

-- .. behind the answer to the request for the WebSocket
pub record SendsTexts (answer : List ℕ) (texts : List (List ℕ)) (sent : List ℕ) : Type 0 where
  pub more : List ℕ
  pub are : sent ≡ answer ++ more
  pub frames : HaveFrames texts more

-- An end before which all texts were sent. Behind bytes that were refused the stream isn't known.
abbrev pub tells_all : SocketEnd → Bool
tells_all Finished = true
tells_all Closed = true
tells_all Refused = false
tells_all Broken = false
tells_all Failed = false
tells_all Starved = false

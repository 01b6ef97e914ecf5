-- What becomes of a socket as texts are sent.
use Rattle.std.specs.Prelude.{◌≡◌, ℕ, Bool, IsTrue, List, [], ◌++◌}
use Rattle.std.specs.List.{flat_map}
use Rattle.tungstenite.specs.Socket.{Socket}
use Rattle.websocket.specs.declared.protocol.config.Role.TheVariants.{Server}
use Rattle.console_socket.specs.Frames.{HaveFrames, text_frame}

-- the socket is a server's, and nothing waits to be sent
pub record RestsAsServer {X : Type 0} (socket : Socket X) : Type 0 where
  pub role : socket.conn.role ≡ Server
  pub nothing_waits : socket.output ≡ []

module _ {X : Type 0} (good : X → List ℕ) where
  -- just the frames of the texts were sent, in order
  abbrev pub SendsFrames : List (List ℕ) → Socket X → Socket X → Type 0
  SendsFrames texts old new = good new.stream ≡ good old.stream ++ flat_map text_frame texts

  -- .. and answers to the peer between them
  pub record WeavesTexts (texts : List (List ℕ)) (old new : Socket X) : Type 0 where
    pub more : List ℕ
    pub grew : good new.stream ≡ good old.stream ++ more
    pub frames : HaveFrames texts more

module _ {X : Type 0} (tells : Bool) (good : X → List ℕ) where
  -- the socket goes on, as far as its stream tells
  pub record SaysTexts (texts : List (List ℕ)) (old new : Socket X) : Type 0 where
    pub rests : RestsAsServer new
    pub sent : IsTrue tells → SendsFrames good texts old new

  pub record ServesTexts (texts : List (List ℕ)) (old new : Socket X) : Type 0 where
    pub rests : RestsAsServer new
    pub sent : IsTrue tells → WeavesTexts good texts old new

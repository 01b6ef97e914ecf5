-- A connection that goes on as a WebSocket (RFC 9110 section 7.8, RFC 6455 section 4).
use Rattle.std.specs.Prelude.{◌≡◌, ℕ, Bool, true, false, List, [], ◌∷◌, ◌++◌, drop, ⊤}
use Rattle.request_stream.specs.Requests.{Request, turned_away, IsOneRequest}
use Rattle.request_stream.specs.declared.refusal.Refusal.{Refusal}
use Rattle.request_stream.specs.declared.refusal.Refusal.TheVariants.{MethodNotAllowed}
use Rattle.rpc_envelope.specs.Turns.{Invoked}
use Rattle.console_socket.specs.Sockets.{AnswersUpgrade, FindsFinish, JoinsAtFirst, SocketTalk, StopsAtFinish, StopsAtWant, turns_of_socket}
use Rattle.console_socket.specs.Upgrades.{IsUpgradeAt}
use Rattle.console_socket.specs.declared.ends.SocketEnd.{SocketEnd}
use Rattle.console_socket.specs.declared.ends.SocketEnd.TheVariants.{Finished}

-- no request for a WebSocket stands at the front
abbrev pub HasNoUpgrade : List ℕ → Type 0
HasNoUpgrade bytes = (used : ℕ) → IsUpgradeAt bytes used → ⊥

-- these requests stand one behind another in the bytes, and none of them asks for a WebSocket
abbrev pub ArePlain : ℕ → List ℕ → List Request → Type 0
ArePlain most bytes [] = ⊤
ArePlain most bytes (request ∷ requests) =
    (used : ℕ) × IsOneRequest most bytes request used × HasNoUpgrade bytes
    × ArePlain most (drop used bytes) requests

-- the request is turned away for its method
abbrev pub is_for_method : Refusal → Bool
is_for_method MethodNotAllowed = true
is_for_method other = false

-- As a request of HTTP alone, one for a WebSocket would be turned away.
abbrev pub UpgradesAreRefusedOverHttp : Type 0
UpgradesAreRefusedOverHttp = (most : ℕ) (bytes : List ℕ) (used : ℕ)
    → IsUpgradeAt bytes used → IsOneRequest most bytes (turned_away MethodNotAllowed) used

-- a request that doesn't ask for a WebSocket doesn't ask for one whatever follows
abbrev pub NoUpgradeStays : Type 0
NoUpgradeStays = (most : ℕ) (bytes more : List ℕ) (request : Request) (used : ℕ)
    → IsOneRequest most bytes request used → HasNoUpgrade bytes → HasNoUpgrade (bytes ++ more)

-- By these bytes, with the request for it at their front, the connection went on as this WebSocket, to this end.
pub record GoesOnAsSocket (told : Bool) (bytes : List ℕ) (socket : SocketTalk) (how : SocketEnd) : Type 0 where
  pub used : ℕ
  pub asks : IsUpgradeAt bytes used
  pub joins : JoinsAtFirst socket.events
  pub stops : StopsAtWant how socket.events
  pub finishes : how ≡ Finished → FindsFinish socket.events
  pub stops_finished : StopsAtFinish how socket.events
  pub answers : AnswersUpgrade told bytes socket how

-- .. and the bytes that came, the calls and the bytes that were sent are those of it
pub record IsUpgraded (told : Bool) (socket : SocketTalk) (how : SocketEnd) (unread : List ℕ)
    (turns : List Invoked) (part : List ℕ) : Type 0 where
  pub bytes : List ℕ
  pub came : unread ≡ bytes ++ socket.received
  pub turns_are : turns ≡ turns_of_socket socket
  pub sent : part ≡ socket.sent
  pub goes_on : GoesOnAsSocket told bytes socket how

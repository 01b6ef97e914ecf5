-- What a link tells of itself, and what a call makes of it.
use Rattle.std.specs.Prelude.{◌≡◌, ◌≢◌, ℕ, Bool, true, false, not, List, [], ◌∷◌, take, Option, Some, None, IfSome, ⊤}
use Rattle.link_source.specs.Exchanges.{Exchange, begun, with_received, TakesDue}
use Rattle.link_source.specs.Mirrors.{Content, no_content, AddsReply, mirror_at}

-- A connection for data beside the link's own: none, one to this port of the same host, or one by which the newest
-- exchange came.
pub data DataLink : Type 0 where
  Shut : DataLink
  Dialled : ℕ → DataLink
  Gives : ℕ → DataLink

-- What the mirrors have, the exchanges of the link, the newest first, what the newest one has still to give, the host and
-- the port to which the link is open, none where it is closed, whether a request was sent there, whose reply may come, and
-- the connection for data beside it.
pub record LinkState : Type 0 where
  pub content : Content
  pub exchanges : List Exchange
  pub due : List ℕ
  pub peer : Option (List ℕ × ℕ)
  pub listens : Bool
  pub data_link : DataLink

-- a link of which nothing is known
abbrev pub no_link : LinkState
no_link = record { content = no_content; exchanges = []; due = []; peer = None; listens = false; data_link = Shut }

-- the link is open to this host and port, where no request was sent yet and nothing is due
pub record Dials (host : List ℕ) (port : ℕ) (old new : LinkState) : Type 0 where
  pub peer : new.peer ≡ Some (host, port)
  pub listens : new.listens ≡ false
  pub exchanges : new.exchanges ≡ old.exchanges
  pub due : new.due ≡ []
  pub content : new.content ≡ old.content
  pub data_link : new.data_link ≡ Shut

-- a connection for data that gave something is closed by the next request
abbrev pub unheard : DataLink → DataLink
unheard Shut = Shut
unheard (Dialled port) = Dialled port
unheard (Gives port) = Shut

-- An exchange began with these bytes, which is fresh where no request was sent there before, and the mirror's reply is
-- due, unless it hangs up.
pub record Sends (bytes : List ℕ) (old new : LinkState) : Type 0 where
  pub exchanges : IfSome old.peer (λ peer. new.exchanges ≡ begun peer.0 peer.1 bytes (not old.listens) ∷ old.exchanges)
  pub reply : IfSome old.peer (λ peer. AddsReply peer.0 peer.1 bytes old.content new.content old.due new.due)
  pub peer : new.peer ≡ old.peer
  pub listens : new.listens ≡ true
  pub data_link : new.data_link ≡ unheard old.data_link

-- the newest exchange has received the first bytes of the buffer, so many, which were due in it
pub record Receives (count : ℕ) (buffer : List ℕ) (old new : LinkState) : Type 0 where
  pub exchanges : new.exchanges ≡ with_received (take count buffer) old.exchanges
  pub due : TakesDue old.due count buffer new.due
  pub content : new.content ≡ old.content
  pub peer : new.peer ≡ old.peer
  pub listens : new.listens ≡ true
  pub data_link : new.data_link ≡ old.data_link

-- the link is open, with a connection for data
pub record HasData (link : LinkState) : Type 0 where
  pub peer : link.peer ≢ None
  pub data_link : link.data_link ≢ Shut

-- a connection for data is open to this port of the same host, by which nothing came yet
pub record DialsData (port : ℕ) (old new : LinkState) : Type 0 where
  pub data_link : new.data_link ≡ Dialled port
  pub peer : new.peer ≡ old.peer
  pub listens : new.listens ≡ old.listens
  pub exchanges : new.exchanges ≡ old.exchanges
  pub due : new.due ≡ old.due
  pub content : new.content ≡ old.content

-- what came over it is an exchange without a request, to which this comes
abbrev pub data_come : DataLink → List ℕ → List ℕ → List Exchange → List Exchange
data_come Shut host bytes exchanges = exchanges
data_come (Dialled port) host bytes exchanges = with_received bytes (begun host port [] true ∷ exchanges)
data_come (Gives port) host bytes exchanges = with_received bytes exchanges

-- none of the mirrors is at its port
abbrev pub IsUnserved : DataLink → List ℕ → Content → Type 0
IsUnserved Shut host content = ⊤
IsUnserved (Dialled port) host content = mirror_at content.mirrors host port ≡ None
IsUnserved (Gives port) host content = ⊤

abbrev pub heard : DataLink → DataLink
heard Shut = Shut
heard (Dialled port) = Gives port
heard (Gives port) = Gives port

-- The data that came has received the first bytes of the buffer, so many. No reply may come any more.
pub record ReceivesData (count : ℕ) (buffer : List ℕ) (old new : LinkState) : Type 0 where
  pub exchanges : IfSome old.peer (λ peer. new.exchanges ≡ data_come old.data_link peer.0 (take count buffer) old.exchanges)
  pub unserved : IfSome old.peer (λ peer. IsUnserved old.data_link peer.0 old.content)
  pub content : new.content ≡ old.content
  pub peer : new.peer ≡ old.peer
  pub listens : new.listens ≡ false
  pub data_link : new.data_link ≡ heard old.data_link

-- the same link, closed
abbrev pub closed : LinkState → LinkState
closed link = record link { peer = None; listens = false; data_link = Shut }

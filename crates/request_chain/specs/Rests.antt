-- Where the link of a chain is open, and whether its connection may take another request.
use Rattle.std.specs.Prelude.{◌≡◌, ◌⊎◌, true, false, ℕ, List, [], ◌∷◌, ◌++◌, Option, Some, None, IfSome}
use Rattle.link_source.specs.Exchanges.{Exchange}
use Rattle.link_source.specs.Link.{LinkState}
use Rattle.range_http.specs.declared.asked.Asked.{Asked}
use Rattle.request_chain.specs.Contents.{IsReadWhole}
use Rattle.request_chain.specs.Exchanges.{IsExchange}
use Rattle.request_chain.specs.declared.room.ChainRoom.{ChainRoom}
use Rattle.request_chain.specs.declared.room.Peer.{Peer}

-- the link is open where the newest request went, and its reply may come
pub record IsOpenTo (peer : Option Peer) (link : LinkState) : Type 0 where
  pub at : IfSome peer (λ p. link.peer ≡ Some (p.host, p.port))
  pub listens : link.listens ≡ true

-- so where the connection may take another request
abbrev pub RestsOn : ChainRoom → LinkState → Type 0
RestsOn room link = room.rests ≡ true → IsOpenTo room.peer link

-- the reply of the exchange was received to the end of its body and nothing behind it, and the end of the connection wasn't told
pub record IsReplyWhole (stream : Exchange) : Type 0 where
  pub url : List ℕ
  pub asked : Asked
  pub exchange : IsExchange url asked stream
  pub read : IsReadWhole asked stream.received
  pub open_still : stream.ended ≡ false

-- so the reply of the newest of these exchanges, the oldest first
abbrev pub NewestIsWhole : List Exchange → Type 0
NewestIsWhole used = (older : List Exchange) × (newest : Exchange) × (used ≡ older ++ newest ∷ []) × IsReplyWhole newest

-- so the reply of the newest of these exchanges, the newest first
abbrev pub TopIsWhole : List Exchange → Type 0
TopIsWhole exchanges = (newest : Exchange) × (older : List Exchange) × (exchanges ≡ newest ∷ older) × IsReplyWhole newest

-- a connection may take another request only behind such a reply
abbrev pub RestsWhole : ChainRoom → List Exchange → Type 0
RestsWhole room exchanges = room.rests ≡ true → TopIsWhole exchanges

-- the link is closed, or its connection may take another request
abbrev pub LetsGo : ChainRoom → LinkState → Type 0
LetsGo room link = (link.peer ≡ None) ⊎ (room.rests ≡ true)

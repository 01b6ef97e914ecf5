-- Calls of a link behind which each of its exchanges had one answer still.
use Rattle.std.specs.Prelude.{◌≡◌, ◌≢◌, ◌⊎◌, ◌≤◌, ℕ, ◌+◌, true, List, [], ◌∷◌, ◌++◌, Some, length, codes}
use Rattle.link_source.specs.Exchanges.{Exchange}
use Rattle.link_source.specs.Link.{LinkState, Dialled, Gives, Dials, DialsData, Sends, Receives, ReceivesData, closed}
use Rattle.link_source.specs.Mirrors.{Content}
use Rattle.request_chain.specs.Answered.{IsAnswered, KeepsAnswers}

-- no request for a part of a resource begins so
abbrev pub IsNoGet : List ℕ → Type 0
IsNoGet request = (rest : List ℕ) → request ≡ codes "GET " ++ rest → ⊥

abbrev pub DialKeepsAnswers : Type 0
DialKeepsAnswers = (before : List Exchange) (link new_link : LinkState) (host : List ℕ) (port : ℕ)
    → Dials host port link new_link → KeepsAnswers before link new_link

abbrev pub HangUpKeepsAnswers : Type 0
HangUpKeepsAnswers = (before : List Exchange) (link new_link : LinkState)
    → new_link ≡ closed link → KeepsAnswers before link new_link

-- something was sent where nothing was due, or behind another request
abbrev pub SendKeepsAnswers : Type 0
SendKeepsAnswers = (before : List Exchange) (link new_link : LinkState) (host : List ℕ) (port : ℕ) (request : List ℕ)
    → link.peer ≡ Some (host, port) → (link.due ≡ []) ⊎ (link.listens ≡ true)
    → Sends request link new_link → KeepsAnswers before link new_link

-- what a link received that isn't the reply to a request of HTTP
pub record HearsOther (before : List Exchange) (link new_link : LinkState) : Type 0 where
  pub stream : Exchange
  pub others : List Exchange
  pub on_top : link.exchanges ≡ stream ∷ others
  pub behind : length before ≤ length others
  pub listens : link.listens ≡ true
  pub no_get : IsNoGet stream.request
  pub count : ℕ
  pub buffer : List ℕ
  pub within : count ≤ length buffer
  pub few : (stream.request ≡ []) ⊎ (length stream.received + count ≤ 32768)
  pub receives : Receives count buffer link new_link

abbrev pub OtherReplyKeepsAnswers : Type 0
OtherReplyKeepsAnswers = (before : List Exchange) (link new_link : LinkState)
    → HearsOther before link new_link → KeepsAnswers before link new_link

abbrev pub DataDialKeepsAnswers : Type 0
DataDialKeepsAnswers = (before : List Exchange) (link new_link : LinkState) (port : ℕ)
    → link.listens ≡ true → DialsData port link new_link → KeepsAnswers before link new_link

-- the first data came
pub record TakesData (link new_link : LinkState) : Type 0 where
  pub host : List ℕ
  pub control : ℕ
  pub peer : link.peer ≡ Some (host, control)
  pub port : ℕ
  pub data_link : link.data_link ≡ Dialled port
  pub count : ℕ
  pub buffer : List ℕ
  pub within : count ≤ length buffer
  pub receives : ReceivesData count buffer link new_link

abbrev pub DataKeepsAnswers : Type 0
DataKeepsAnswers = (before : List Exchange) (link new_link : LinkState)
    → TakesData link new_link → KeepsAnswers before link new_link

-- more data came
pub record TakesMoreData (before : List Exchange) (link new_link : LinkState) : Type 0 where
  pub host : List ℕ
  pub control : ℕ
  pub peer : link.peer ≡ Some (host, control)
  pub port : ℕ
  pub data_link : link.data_link ≡ Gives port
  pub stream : Exchange
  pub others : List Exchange
  pub on_top : link.exchanges ≡ stream ∷ others
  pub behind : length before ≤ length others
  pub request_is : stream.request ≡ []
  pub fresh_is : stream.fresh ≡ true
  pub heard : stream.received ≢ []
  pub count : ℕ
  pub buffer : List ℕ
  pub within : count ≤ length buffer
  pub receives : ReceivesData count buffer link new_link

abbrev pub MoreDataKeepsAnswers : Type 0
MoreDataKeepsAnswers = (before : List Exchange) (link new_link : LinkState)
    → TakesMoreData before link new_link → KeepsAnswers before link new_link

-- the exchanges before are no more than those now
abbrev pub AnsweredAreFew : Type 0
AnsweredAreFew = (old : Content) (before : List Exchange) (link : LinkState) → IsAnswered old before link
    → length before ≤ length link.exchanges

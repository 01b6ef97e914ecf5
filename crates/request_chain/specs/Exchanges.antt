-- One request over a link, and what it had for an answer.
use Rattle.std.specs.Prelude.{◌≡◌, ◌==◌, ◌&&◌, not, Bool, true, false, ℕ, List, length, Ok, None}
use Rattle.url.specs.Parser.{parse_url}
use Rattle.link_source.specs.Endpoint.{FollowsParser, host_field_of}
use Rattle.link_source.specs.Exchanges.{Exchange}
use Rattle.link_source.specs.declared.endpoint.Endpoint.{Endpoint}
use Rattle.range_http.specs.Request.{request_text}
use Rattle.range_http.specs.declared.asked.Asked.{Asked}
use Rattle.reply_reader.specs.Answers.{Answer, Answers}

-- the URL leads there
abbrev pub LeadsTo : List ℕ → Endpoint → Type 0
LeadsTo url endpoint = FollowsParser (Ok endpoint) (parse_url None url)

-- the request for a range at an endpoint
abbrev pub request_for : Asked → Endpoint → List ℕ
request_for asked endpoint = request_text endpoint.target (host_field_of endpoint) asked

-- the exchange leads where the URL does, and its request is that for the range
pub record IsExchange (url : List ℕ) (asked : Asked) (stream : Exchange) : Type 0 where
  pub endpoint : Endpoint
  pub leads : LeadsTo url endpoint
  pub host_is : stream.host ≡ endpoint.host
  pub port_is : stream.port ≡ endpoint.port
  pub request_is : stream.request ≡ request_for asked endpoint

-- nothing came over a connection on which another request was sent before
abbrev pub is_unheard : Exchange → Bool
is_unheard stream = not stream.fresh && (length stream.received == 0)

-- So the connection ended, as where the mirror closed it before it read the request, which may be sent once more (RFC 9112
-- section 9.3.1).
abbrev pub is_gone : Exchange → Bool
is_gone stream = stream.ended && is_unheard stream

-- the request was sent so in vain
abbrev pub IsSentInVain : List ℕ → Asked → Exchange → Type 0
IsSentInVain url asked stream = IsExchange url asked stream × (is_gone stream ≡ true)

-- what its stream answers to the request for the range at the URL
abbrev pub Replies : List ℕ → Asked → Exchange → Answer → Type 0
Replies url asked stream answer =
    IsExchange url asked stream × Answers asked stream.received stream.ended answer × (is_gone stream ≡ false)

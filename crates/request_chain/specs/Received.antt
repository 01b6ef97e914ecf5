-- How far the reply in a stream is read.
use Rattle.std.specs.Prelude.{◌≡◌, ◌⊎◌, ℕ, ◌+◌, ◌*◌, ◌<◌, ◌≤◌, ◌^◌, false, List, [], ◌++◌, length}
use Rattle.link_source.specs.Exchanges.{Exchange}
use Rattle.link_source.specs.declared.exchanges.TheConstants.{MOST_RECEIVED}
use Rattle.range_http.specs.declared.asked.Asked.{Asked}
use Rattle.http_heads.specs.declared.head.Head.{Head}
use Rattle.range_http.specs.Verdict.{is_moved}
use Rattle.reply_reader.specs.Answers.{Answer, Answers, Due}
use Rattle.reply_reader.specs.Heads.{HasFinalHead}
use Rattle.reply_reader.specs.Sizes.{heads_most, lines_most}
use Rattle.request_chain.specs.Exchanges.{IsExchange}

-- Of the heads of a reply no more came than the longest ones have, and one buffer at most behind bytes in which the final
-- head didn't stand yet.
pub record IsReadToHead (stream : Exchange) : Type 0 where
  pub front : List ℕ
  pub behind : List ℕ
  pub received_is : stream.received ≡ front ++ behind
  pub buffer : length behind ≤ MOST_RECEIVED
  pub headless : (head : Head) (used : ℕ) → HasFinalHead front head used → ⊥
  pub few : length stream.received ≤ heads_most

-- A reply whose head says that it isn't elsewhere was read no further than one buffer behind bytes by which more of what
-- was asked for was due: its heads, and content up to the last byte that was asked for, in chunks of one byte at worst.
pub record IsReadNoFurther (stream : Exchange) : Type 0 where
  pub url : List ℕ
  pub asked : Asked
  pub ordered : asked.first ≤ asked.last
  pub bounded : asked.last < 2 ^ 64
  pub exchange : IsExchange url asked stream
  pub front : List ℕ
  pub behind : List ℕ
  pub received_is : stream.received ≡ front ++ behind
  pub buffer : length behind ≤ MOST_RECEIVED
  pub head : Head
  pub used : ℕ
  pub begins : HasFinalHead front head used
  pub here : is_moved head ≡ false
  pub answer : Answer
  pub answers : Answers asked front false answer
  pub due : answer.turn ≡ Due
  pub short : length front ≤ heads_most + 261 * (asked.last + 1) + lines_most

-- a stream of no request of this kind: a reply of at most 32,768 bytes to a command, or what came without one
pub record IsOtherwise (stream : Exchange) : Type 0 where
  pub none : (url : List ℕ) (asked : Asked) → IsExchange url asked stream → ⊥
  pub few : (stream.request ≡ []) ⊎ (length stream.received ≤ 32768)

-- So a stream was read: no body's rest, and of a probe no body.
abbrev pub ReceivesLittle : Exchange → Type 0
ReceivesLittle stream = IsReadToHead stream ⊎ (IsReadNoFurther stream ⊎ IsOtherwise stream)

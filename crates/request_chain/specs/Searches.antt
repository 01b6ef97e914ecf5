-- A probe, as its streams come.
use Rattle.std.specs.Prelude.{◌≡◌, ◌≤◌, ℕ, ◌+◌, true, false, List, ◌∷◌, ◌++◌, length, ◌⊎◌, Result, MatchResult}
use Rattle.link_source.specs.Exchanges.{Exchange}
use Rattle.http_heads.specs.declared.head.Head.{Head}
use Rattle.reply_reader.specs.Heads.{HasFinalHead, IsAtHead}
use Rattle.reply_reader.specs.Sizes.{heads_most}
use Rattle.reply_reader.specs.declared.heads.HeadReader.{HeadReader}
use Rattle.reply_reader.specs.declared.loss.Loss.{Loss}
use Rattle.reply_reader.specs.declared.loss.Loss.TheVariants as losses
use Rattle.request_chain.specs.Exchanges.{IsExchange}
use Rattle.request_chain.specs.Probes.{Probe, Due, Lost, probe_asked, ProbeReplies, Search, ProbedBy}
use Rattle.request_chain.specs.Sending.{IsUnopened}

-- the newest stream is a probe's, its heads were read up to what waits, and so many bytes may still come
pub record Awaits (url : List ℕ) (before now : List Exchange) (left : ℕ) (waiting : List ℕ) (reader : HeadReader) : Type 0 where
  pub stream : Exchange
  pub on_top : now ≡ stream ∷ before
  pub exchange : IsExchange url probe_asked stream
  pub fresh_is : stream.fresh ≡ true
  pub not_ended : stream.ended ≡ false
  pub front : List ℕ
  pub received_is : stream.received ≡ front ++ waiting
  pub at : IsAtHead front reader
  pub room : length stream.received + left ≡ heads_most

-- the final head came in it
pub record HasHead (url : List ℕ) (before now : List Exchange) (head : Head) : Type 0 where
  pub stream : Exchange
  pub on_top : now ≡ stream ∷ before
  pub exchange : IsExchange url probe_asked stream
  pub fresh_is : stream.fresh ≡ true
  pub used : ℕ
  pub begins : HasFinalHead stream.received head used

-- so, its end wasn't told, and this waits behind the head
pub record HasHeadAnd (url : List ℕ) (before now : List Exchange) (waiting : List ℕ) (head : Head) : Type 0 where
  pub has : HasHead url before now head
  pub not_ended : has.stream.ended ≡ false
  pub behind : length has.stream.received ≡ has.used + length waiting
  pub few : length has.stream.received ≤ heads_most

-- the newest stream tells this
abbrev pub NewestTells : List ℕ → List Exchange → List Exchange → Probe → Type 0
NewestTells url before now probe = (stream : Exchange) × (now ≡ stream ∷ before) × ProbeReplies url stream probe

-- what each loss says of a head that didn't come
abbrev pub HeadLost : List ℕ → List Exchange → List Exchange → ℕ → Loss → Type 0
HeadLost url before now faults (losses.Link count) = (count ≡ faults) × NewestTells url before now Due
HeadLost url before now faults losses.NoMemory = (stream : Exchange) × (now ≡ stream ∷ before)
HeadLost url before now faults loss = NewestTells url before now (Lost loss)

-- a request was sent and the final head of its reply came, or what each loss says of one that didn't
abbrev pub AsksForHead : List ℕ → ℕ → List Exchange → Result Head Loss → List Exchange → List ℕ → ℕ → Type 0
AsksForHead url status before result now waiting faults = MatchResult result (HasHeadAnd url before now waiting)
    (λ loss. IsUnopened url status before now faults loss ⊎ HeadLost url before now faults loss)

-- whatever is told from the next search on is told from the first
abbrev pub SearchLeads : Search → List Exchange → Search → Type 0
SearchLeads search used next = (streams : List Exchange) (probe : Probe) → ProbedBy next streams probe → ProbedBy search (used ++ streams) probe

-- A chain of requests over one link.
use Rattle.std.specs.Prelude.{◌≡◌, ◌⊎◌, ◌<◌, ◌≤◌, ℕ, ◌+◌, List, [], ◌∷◌, ◌++◌, length, sum_by, true}
use Rattle.link_source.specs.Exchanges.{Exchange}
use Rattle.span_map.specs.declared.jobs.JobPart.{JobPart}
use Rattle.reply_reader.specs.declared.loss.Loss.{Loss}
use Rattle.reply_reader.specs.declared.loss.Loss.TheVariants.{Link, NoMemory}
use Rattle.request_chain.specs.Fetched.{Fetched}
use Rattle.request_chain.specs.Stages.{IsReading, IsBehindHead}
use Rattle.request_chain.specs.Plans.{FetchEnding, Done, Open, Lost}
use Rattle.request_chain.specs.declared.chain.Chain.{Chain}
use Rattle.request_chain.specs.declared.chain.ChainRead.{ChainRead}

-- these streams came on top, the oldest first
abbrev pub Gains : List Exchange → List Exchange → List Exchange → Type 0
Gains before now [] = now ≡ before
Gains before now (stream ∷ gained) = Gains (stream ∷ before) now gained

-- all that a link's streams received
abbrev pub received_by : List Exchange → ℕ
received_by streams = sum_by (λ stream. length stream.received) streams

-- the chain was begun for these parts, over these streams it brought these bytes, and more of the parts is to come
pub record IsChain (parts : List JobPart) (used : List Exchange) (bytes : List ℕ) (chain : Chain) : Type 0 where
  pub reading : IsReading chain.stage chain.course chain.room.inbox parts used bytes
  pub behind : IsBehindHead chain.stage chain.room.inbox

-- what the streams tell where these bytes were brought: waiting is what came behind them and wasn't used yet
pub record HasBrought (parts : List JobPart) (used : List Exchange) (bytes waiting : List ℕ) : Type 0 where
  pub ending : FetchEnding
  pub fetched : Fetched parts used (bytes ++ waiting) ending []

-- what was gained by a call
pub record ReadsChain (parts : List JobPart) (before : List Exchange) (used : List Exchange) (bytes : List ℕ) (now : List Exchange) (added : List ℕ) (room allow : ℕ) (read : ChainRead) (chain : Chain) : Type 0 where
  pub later : List Exchange
  pub gains : Gains before now later
  pub waiting : List ℕ
  pub brought : HasBrought parts later (bytes ++ added) waiting
  -- bytes wait only where there was no room for them
  pub none_waits : length added < room → waiting ≡ []
  pub taken : received_by later ≡ received_by used + read.taken
  pub few : read.taken ≤ allow
  pub full : (read.done ≡ true) ⊎ (length added ≡ room) ⊎ (read.taken ≡ allow)
  pub goes_on : (read.done ≡ true) ⊎ IsChain parts later (bytes ++ added) chain
  pub done : read.done ≡ true → Fetched parts later (bytes ++ added) Done []

-- what each loss says of the streams that were used, where so many faults of the link are counted now
abbrev pub TellsLoss : List JobPart → List Exchange → List ℕ → ℕ → Loss → Type 0
TellsLoss parts used bytes faults (Link count) = Fetched parts used bytes Open [] × (count ≡ faults)
TellsLoss parts used bytes faults NoMemory = Unit {0}
TellsLoss parts used bytes faults loss = Fetched parts used bytes (Lost loss) []

-- what was gained by a call that lost the rest
pub record Loses (parts : List JobPart) (before : List Exchange) (used : List Exchange) (bytes : List ℕ) (now : List Exchange) (added : List ℕ) (allow faults : ℕ) (chain : Chain) (loss : Loss) : Type 0 where
  pub later : List Exchange
  pub gains : Gains before now later
  pub taken : received_by later ≡ received_by used + chain.taken
  pub few : chain.taken ≤ allow
  pub tells : TellsLoss parts later (bytes ++ added) faults loss

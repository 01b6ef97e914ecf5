-- What a call of a chain gains.
use Rattle.std.specs.Prelude.{ℕ, ◌≤◌, List, [], length, Result, MatchResult}
use Rattle.link_source.specs.Exchanges.{Exchange}
use Rattle.link_source.specs.Link.{LinkState}
use Rattle.span_map.specs.declared.jobs.JobPart.{JobPart}
use Rattle.reply_reader.specs.declared.loss.Loss.{Loss}
use Rattle.request_chain.specs.Answered.{KeepsAnswers}
use Rattle.request_chain.specs.Chains.{Gains, IsChain, Loses, ReadsChain, TellsLoss}
use Rattle.request_chain.specs.Turns.{ReceivesMore, StepLoses, Steps}
use Rattle.request_chain.specs.declared.chain.Chain.{Chain}
use Rattle.request_chain.specs.declared.chain.ChainRead.{ChainRead}

-- P of the parts that the chain was begun for, the exchanges before it and those that it used, and the bytes that it brought
abbrev pub ForEachUse : Chain → LinkState → (List JobPart → List Exchange → List Exchange → List ℕ → Type 0) → Type 0
ForEachUse chain link P = (parts : List JobPart) (before used : List Exchange) (bytes : List ℕ)
    → IsChain parts used bytes chain → Gains before link.exchanges used → P parts before used bytes

-- of one use: it was carried on by these bytes, or the rest was lost
abbrev pub StepsOrLoses : {T : Type 0} → List JobPart → List Exchange → List Exchange → List ℕ → List ℕ → Chain → Result T Loss → Chain → LinkState → ℕ → Type 0
StepsOrLoses parts before used bytes added old result new link faults = MatchResult result
    (λ _. Steps parts before used bytes link.exchanges added old.taken new)
    (StepLoses parts before used bytes link.exchanges added old.taken faults new)

-- so by a read
abbrev pub ReadsOrLoses : List JobPart → List Exchange → List Exchange → List ℕ → List ℕ → ℕ → ℕ → Result ChainRead Loss → Chain → LinkState → ℕ → Type 0
ReadsOrLoses parts before used bytes added room allow result new link faults = MatchResult result
    (λ read. ReadsChain parts before used bytes link.exchanges added room allow read new)
    (Loses parts before used bytes link.exchanges added allow faults new)

-- so by what waits, without a call of the link
abbrev pub MovesOrLoses : {T : Type 0} → List JobPart → List Exchange → List ℕ → Result T Loss → Chain → Type 0
MovesOrLoses parts used bytes result new = MatchResult result
    (λ _. IsChain parts used bytes new)
    (λ loss. (faults : ℕ) → TellsLoss parts used bytes faults loss)

-- the next request was sent, or the rest was lost
abbrev pub SendsOrLoses : {T : Type 0} → Chain → LinkState → Result T Loss → Chain → LinkState → ℕ → Type 0
SendsOrLoses old link result new new_link faults =
    ForEachUse old link (λ parts before used bytes. StepsOrLoses parts before used bytes [] old result new new_link faults)

-- more of the newest exchange came, or the rest was lost
abbrev pub HearsMore : {T : Type 0} → Chain → LinkState → Result T Loss → Chain → LinkState → ℕ → Type 0
HearsMore old link result new new_link faults = ForEachUse old link (λ parts before used bytes. MatchResult result
    (λ _. ReceivesMore parts before used bytes new_link.exchanges old.taken new)
    (StepLoses parts before used bytes new_link.exchanges [] old.taken faults new))

-- each exchange since those before, or since fewer of them, had one answer still
abbrev pub StaysAnswered : Chain → LinkState → LinkState → Type 0
StaysAnswered old link new_link = ForEachUse old link (λ parts before used bytes.
    (since : List Exchange) → length since ≤ length before → KeepsAnswers since link new_link)

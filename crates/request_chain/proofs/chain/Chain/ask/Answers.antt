use Rattle.std.proofs.Common.{List, ℕ, subst, append-nil}
use Rattle.request_chain.specs.Chains.{IsChain}
use Rattle.request_chain.proofs.AskLemmas.{asked_on}
use Rattle.request_chain.proofs.chain.Chain.ask.Goals as goal

pub returns-clause-asks : goal.returns-clause-asks
returns-clause-asks g c told parts before used bytes is gains =
    let steps = c.in_ok-ask_again.ensures.asks told parts before used bytes is gains in
    let P : List ℕ → Type 0 = λ came. IsChain parts steps.later came c.ask_again.new.self in
    asked_on parts before used _ _ bytes _ _ c.ask_again.new.self _ c.ask_first-2.result steps c.ask_again.ensures.taken
    (c.ask_first-2.ensures.asks told parts before steps.later bytes (subst P (append-nil bytes) steps.chain_is) steps.gains)

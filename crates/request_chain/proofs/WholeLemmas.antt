-- Replies that were read whole.
use Rattle.std.proofs.Common.{List, subst}
use Rattle.link_source.specs.Exchanges.{Exchange}
use Rattle.request_chain.specs.Chains.{Gains}
use Rattle.request_chain.specs.Rests.{NewestIsWhole, TopIsWhole}
use Rattle.request_chain.proofs.GainLemmas.{gains_last}

-- the newest of the exchanges that were gained is the newest of all
pub whole_on_top : (before now used : List Exchange) → Gains before now used → NewestIsWhole used
    → TopIsWhole now
whole_on_top before now used gains whole =
    let P : List Exchange → Type 0 = Gains before now in
    let last = gains_last whole.0 before now whole.1 (subst P whole.2 gains) in
    (whole.1, last.0, last.1, whole.3)

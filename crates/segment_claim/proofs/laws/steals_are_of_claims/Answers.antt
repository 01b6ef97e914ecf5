use Rattle.segment_claim.proofs.StealLemmas.{steal_mirror, steal_of}
use Rattle.segment_claim.proofs.laws.steals_are_of_claims.Goals as goal

pub returns-clause-claims : goal.returns-clause-claims
returns-clause-claims c = λ book s views now steal same seen is. steal_of book s views now steal same seen is

pub returns-clause-mirrors : goal.returns-clause-mirrors
returns-clause-mirrors c = λ s views now steal seen is. steal_mirror s views now steal seen is

use Rattle.request_chain.specs.Plans.{plan_of}
use Rattle.request_chain.proofs.Leading.{ends}
use Rattle.request_chain.proofs.chain.Chain.new.Goals as goal

pub returns-clause-brought : goal.returns-clause-brought
returns-clause-brought c = record { ending = (ends (plan_of c.args.parts)).0; fetched = (ends (plan_of c.args.parts)).1 }

use Rattle.std.proofs.Common.{arith}
use Rattle.range_http.proofs.EmptyLineLemmas.{head_ends}
use Rattle.range_http.proofs.empty_line.has_empty_line.Goals as goal

pub returns-clause-head : goal.returns-clause-head
returns-clause-head c = λ _ head used. head_ends c.args.bytes.now c.args.from head used (λ has. c.loop-last.invariant has.0 has.1 (omega (arith, has.2)) has.3)

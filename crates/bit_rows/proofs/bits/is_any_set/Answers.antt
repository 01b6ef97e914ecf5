use Rattle.std.proofs.Common.{refl, arith}
use Rattle.std.proofs.lemmas.Bool.{false≢true}
use Rattle.bit_rows.proofs.Rows.{found_set, none_set}
use Rattle.bit_rows.proofs.bits.is_any_set.Goals as goal

pub returns-then-bit : goal.returns-then-bit
returns-then-bit c = (λ _. found_set c.args.bytes.now c.args.from c.loop-at.at (omega arith) c.if-bit.ensures, λ _. refl)

pub returns : goal.returns
returns c = (
  λ is. absurd (false≢true is),
  λ has. absurd (none_set c.args.bytes.now c.args.from (λ place later below. c.loop-at.invariant place later (omega arith)) has),
)

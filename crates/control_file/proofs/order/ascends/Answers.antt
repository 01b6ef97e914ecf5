use Rattle.std.proofs.lemmas.Bool.{false≢true}
use Rattle.control_file.proofs.Ordered.{falls, rises_on}
use Rattle.control_file.proofs.order.ascends.Goals as goal

pub returns-then-pieces-i : goal.returns-then-pieces-i
returns-then-pieces-i c = (
  λ no. absurd (false≢true no),
  λ rises. absurd (falls c.args.pieces.now c.loop-i.i _ _ c.loop-i.auto.i c.loop-i-test.true c.if-pieces-i.true rises),
)

pub loop-i-preserved : goal.loop-i-preserved
loop-i-preserved c =
    rises_on c.args.pieces.now c.loop-i.i _ _ c.loop-i.auto.i c.loop-i-test.true c.if-pieces-i.false c.loop-i.invariant

use Rattle.std.proofs.Common.{arith}
use Rattle.span_map.proofs.Clashes.{next_begins}
use Rattle.span_map.proofs.paths.some_begins_next.Goals as goal

pub returns-then-begins : goal.returns-then-begins
returns-then-begins c =
    next_begins (λ path. path.now) c.args.paths.now c.loop-place.place c.index-paths-place-in-loop-place.result c.index-paths-place.result
    (omega arith) c.loop-place-test.true c.index-paths-place-in-loop-place.is c.index-paths-place.is (c.begins.ensures.0 c.if-begins.true)

use Rattle.std.proofs.Common.{arith, false, true}
use Rattle.piece_table.specs.Sums.{block_bytes}
use Rattle.piece_table.proofs.Weights.{sum_where-next}
use Rattle.piece_table.proofs.start.landed_bytes.Goals as goal
use Rattle.piece_table.proofs.start.landed_bytes.Goals.{then-get, else-get}

pub loop-block-preserved : goal.loop-block-preserved
loop-block-preserved c =
    let plan = c.args.plan.now in
    let block = c.loop-block.block in
    let next = sum_where-next (block_bytes plan.total plan.piece_len) c.args.landed.now block in
    elim c.if-get.branch [
      | then-get w ↦
          let span = w.block_span.ensures in
          record {
            sum = omega (arith, next true w.if-get.ensures, w.bytes-is, span.start, span.end);
            bound = omega (arith, w.bytes-is, span.at_most_full);
          }
      | else-get w ↦
          record { sum = omega (arith, next false w.if-get.ensures, w.bytes-is); bound = omega (arith, w.bytes-is) }
    ]

use Rattle.std.proofs.Common.{arith, false, true}
use Rattle.piece_table.specs.Sums.{piece_bytes}
use Rattle.piece_table.proofs.Weights.{sum_where-next}
use Rattle.piece_table.proofs.start.verified_bytes.Goals as goal
use Rattle.piece_table.proofs.start.verified_bytes.Goals.{then-get, else-get}

pub loop-piece-preserved : goal.loop-piece-preserved
loop-piece-preserved c =
    let plan = c.args.plan.now in
    let piece = c.loop-piece.piece in
    let next = sum_where-next (piece_bytes plan.total plan.piece_len) c.args.verified.now piece in
    elim c.if-get.branch [
      | then-get w ↦
          let span = w.piece_span.ensures in
          record {
            sum = omega (arith, next true w.if-get.ensures, w.bytes-is, span.start, span.end);
            bound = omega (arith, w.bytes-is, span.at_most_full, plan.is_plan.piece);
          }
      | else-get w ↦
          record { sum = omega (arith, next false w.if-get.ensures, w.bytes-is); bound = omega (arith, w.bytes-is) }
    ]

use Rattle.std.proofs.Common.{arith, false, true}
use Rattle.piece_table.proofs.Counts.{count-part_more}
use Rattle.piece_table.proofs.start.count_landed.Goals as goal
use Rattle.piece_table.proofs.start.count_landed.Goals.{then-get, else-get}

pub loop-block-preserved : goal.loop-block-preserved
loop-block-preserved c =
    let landed = c.args.landed.now in
    let block = c.loop-block.block in
    elim c.if-get.branch [
      | then-get w ↦
          let more = count-part_more landed c.args.run.first block true (omega arith) w.if-get.ensures in
          record { counted = omega (arith, more, w.count-is); bound = omega (arith, w.count-is) }
      | else-get w ↦
          let more = count-part_more landed c.args.run.first block false (omega arith) w.if-get.ensures in
          record { counted = omega (arith, more, w.count-is); bound = omega (arith, w.count-is) }
    ]

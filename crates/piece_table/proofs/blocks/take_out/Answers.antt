use Rattle.std.proofs.Common.{◌≡◌, ◌+◌, ◌<◌, length, arith, ap, ◌∙◌, set, false}
use Rattle.std.proofs.lemmas.List.{length-set}
use Rattle.piece_table.specs.Sums.{block_bytes, sum_where}
use Rattle.piece_table.proofs.Taking.{goes, stays}
use Rattle.piece_table.proofs.Weights.{block_bytes-le}
use Rattle.piece_table.proofs.blocks.take_out.Goals as goal
use Rattle.piece_table.proofs.blocks.take_out.Goals.{then-get, else-get}

pub loop-block-preserved : goal.loop-block-preserved
loop-block-preserved c =
    let plan = c.args.plan.now in
    let size = block_bytes plan.total plan.piece_len in
    let inv = c.loop-block.invariant in
    let block = c.loop-block.block in
    let within : block < length c.args.landed.now = omega arith in
    elim c.if-get.branch [
      | then-get w ↦
          let left = goes size c.args.landed.now c.loop-block.landed c.args.run.first block c.loop-block.bytes (omega arith) within inv.row inv.bytes w.if-get.ensures in
          let bytes : c.if-get.bytes ≡ c.loop-block.bytes + size block = w.bytes-is ∙ omega (arith, w.block_span.ensures.start, w.block_span.ensures.end) in
          let row : c.if-get.landed ≡ set c.loop-block.landed block false = w.landed-is ∙ w.clear.ensures in
          record {
            row = row ∙ left.0;
            all = ap length row ∙ length-set c.loop-block.landed block false ∙ inv.all;
            bytes = omega (arith, bytes, ap (sum_where size) row, left.1);
            bound = omega (arith, bytes, block_bytes-le plan.total plan.piece_len block);
          }
      | else-get w ↦
          record {
            row = w.landed-is ∙ stays c.args.landed.now c.loop-block.landed c.args.run.first block (omega arith) within inv.row w.if-get.ensures;
            all = ap length w.landed-is ∙ inv.all;
            bytes = omega (arith, w.bytes-is, ap (sum_where size) w.landed-is, inv.bytes);
            bound = omega (arith, w.bytes-is);
          }
    ]

use Rattle.std.proofs.Common.{◌≡◌, ◌*◌, ◌≤◌, take}
use Rattle.piece_table.specs.Sums.{block_bytes, sum_where}
use Rattle.piece_table.proofs.start.landed_bytes.Given as goal

abbrev pub invariant-loop-block : goal.invariant-loop-block
invariant-loop-block l =
    record {
      sum : l.bytes ≡ sum_where (block_bytes l.plan.total l.plan.piece_len) (take l.block l.landed);
      bound : l.bytes ≤ 16384 * l.block;
    }

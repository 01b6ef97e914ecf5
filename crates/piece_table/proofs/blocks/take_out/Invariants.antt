use Rattle.std.proofs.Common.{◌≡◌, ◌+◌, ◌-◌, ◌*◌, ◌≤◌, false, length}
use Rattle.dl_kinds.specs.Plan.{blocks_of}
use Rattle.piece_table.specs.Steps.{filled}
use Rattle.piece_table.specs.Sums.{block_bytes, sum_where}
use Rattle.piece_table.proofs.blocks.take_out.Given as goal

abbrev pub invariant-loop-block : goal.invariant-loop-block
invariant-loop-block l =
    let size = block_bytes l.plan.total l.plan.piece_len in
    record {
      row : l.landed ≡ filled false l.fn.run.first (l.block - l.fn.run.first) l.fn.landed;
      all : length l.landed ≡ blocks_of l.plan.total l.plan.piece_len;
      bytes : l.bytes + sum_where size l.landed ≡ sum_where size l.fn.landed;
      bound : l.bytes ≤ 16384 * (l.block - l.fn.run.first);
    }

use Rattle.std.proofs.Common.{◌≡◌, ◌*◌, ◌≤◌, take}
use Rattle.piece_table.specs.Sums.{piece_bytes, sum_where}
use Rattle.piece_table.proofs.start.verified_bytes.Given as goal

abbrev pub invariant-loop-piece : goal.invariant-loop-piece
invariant-loop-piece l =
    record {
      sum : l.bytes ≡ sum_where (piece_bytes l.plan.total l.plan.piece_len) (take l.piece l.verified);
      bound : l.bytes ≤ 67108864 * l.piece;
    }

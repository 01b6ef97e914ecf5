use Rattle.std.proofs.Common.{◌≡◌, ◌*◌, ◌≤◌, length, take}
use Rattle.machine_core.specs.Asked.{known_by}
use Rattle.piece_table.specs.Sums.{sum_where}
use Rattle.run_report.specs.Files.{shared_bytes}
use Rattle.run_report.proofs.pieces.verified_bytes_in.Given as goal

abbrev pub invariant-loop-piece : goal.invariant-loop-piece
invariant-loop-piece l = record {
  sum : l.bytes ≡ sum_where (shared_bytes (known_by l.lengths) l.first l.len) (take l.piece l.verified);
  few : l.bytes ≤ 4294967295 * l.piece;
  within : l.piece ≤ length l.verified;
}

use Rattle.std.proofs.Common.{◌≡◌, ◌*◌, ◌≤◌, take}
use Rattle.std.specs.Prelude.{sum_by}
use Rattle.dl_history.specs.StandingClaims.{blocks_in}
use Rattle.piece_table.specs.Sums.{block_bytes}
use Rattle.run_report.proofs.speeds.run_bytes.Given as goal

abbrev pub invariant-loop-place : goal.invariant-loop-place
invariant-loop-place l = record {
  sum : l.bytes ≡ sum_by (block_bytes l.lengths.total l.lengths.piece_len) (take l.place (blocks_in l.run));
  few : l.bytes ≤ 16384 * l.place;
}

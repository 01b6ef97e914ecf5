use Rattle.std.proofs.Common.{◌≤◌, length, take}
use Rattle.ftp_replies.proofs.ClosingLemmas.{Passed}
use Rattle.ftp_replies.proofs.lines.read_lines.Given as goal

abbrev pub invariant-loop-lines : goal.invariant-loop-lines
invariant-loop-lines l = record {
  within : l.used ≤ length l.bytes;
  passed : Passed l.closing (take l.used l.bytes) l.lines;
}

use Rattle.std.proofs.Common.{ℕ, ◌+◌, ◌<◌}
use Rattle.ftp_replies.specs.LineEnds.{LineEndsAt}
use Rattle.ftp_replies.proofs.line.line_len.Given as goal

abbrev pub invariant-loop-at : goal.invariant-loop-at
invariant-loop-at l = (place : ℕ) → place + 1 < l.at → LineEndsAt l.bytes place → ⊥

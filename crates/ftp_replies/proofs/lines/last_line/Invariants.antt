use Rattle.std.proofs.Common.{ℕ, List, length}
use Rattle.ftp_replies.proofs.LastLemmas.{AreLines}
use Rattle.ftp_replies.proofs.lines.last_line.Given as goal

abbrev pub invariant-loop-len : goal.invariant-loop-len
invariant-loop-len l = (last : List ℕ) → AreLines last l.reply → AreLines last l.rest

abbrev pub decreases-loop-len : goal.decreases-loop-len
decreases-loop-len l = length l.rest

use Rattle.std.proofs.Common.{length, get_or, false}
use Rattle.one_download.proofs.Written.{IsWritten}
use Rattle.one_download.proofs.rows.copy_over.Given as goal

abbrev pub invariant-loop-place : goal.invariant-loop-place
invariant-loop-place l = IsWritten (λ i. get_or l.from i false) (length l.from) l.place l.into

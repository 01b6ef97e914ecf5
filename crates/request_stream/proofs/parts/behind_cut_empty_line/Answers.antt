use Rattle.request_stream.proofs.HeadParts.{cut_line_ended}
use Rattle.request_stream.proofs.parts.behind_cut_empty_line.Goals as goal

pub returns-then-byte-eq10 : goal.returns-then-byte-eq10
returns-then-byte-eq10 c = rw c.if-byte-eq10.true (λ front len h. cut_line_ended front h)

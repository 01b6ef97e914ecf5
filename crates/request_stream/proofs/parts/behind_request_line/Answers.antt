use Rattle.request_stream.proofs.HeadParts.{start_line_cut, start_line_ended}
use Rattle.request_stream.proofs.parts.behind_request_line.Goals as goal

pub returns-then-byte-eq13 : goal.returns-then-byte-eq13
returns-then-byte-eq13 c = rw c.if-byte-eq13.true (λ front len h. start_line_cut front h)

pub returns-then-byte-eq10 : goal.returns-then-byte-eq10
returns-then-byte-eq10 c = rw c.if-byte-eq10.true (λ front len h. start_line_ended front h)

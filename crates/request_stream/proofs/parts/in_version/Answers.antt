use Rattle.std.proofs.Common.{arith}
use Rattle.request_stream.proofs.HeadParts.{version_goes_on}
use Rattle.request_stream.proofs.parts.in_version.Goals as goal

pub returns-then-byte-count : goal.returns-then-byte-count
returns-then-byte-count c = λ front len h. (
  omega (arith, c.if-count-ge7.false),
  version_goes_on front c.args.count c.args.byte c.if-count-ge7.false c.if-byte-count.true h.1,
)

use Rattle.std.proofs.Common.{take}
use Rattle.request_stream.specs.HeadParts.{EndsIn}
use Rattle.request_stream.proofs.parts.last_part.Given as goal

abbrev pub invariant-loop-at : goal.invariant-loop-at
invariant-loop-at l = EndsIn l.last (take l.at l.bytes)

use Rattle.std.proofs.Common.{◌≡◌, [], map, take}
use Rattle.http_header.specs.HeaderMap.{append_all}
use Rattle.http_heads.specs.Spans.{entry_at}
use Rattle.http_heads.proofs.fields.fields_at.Given as goal

abbrev pub invariant-loop-span : goal.invariant-loop-span
invariant-loop-span l = l.fields ≡ append_all [] (map (entry_at l.bytes) (take l.span-index l.spans))

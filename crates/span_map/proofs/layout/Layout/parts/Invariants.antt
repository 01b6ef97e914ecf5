use Rattle.std.proofs.Common.{◌≡◌, take}
use Rattle.span_map.specs.Slices.{parts_from}
use Rattle.span_map.proofs.layout.Layout.parts.Given as goal

abbrev pub invariant-loop-number : goal.invariant-loop-number
invariant-loop-number l = l.parts.items ≡ parts_from 0 0 (take l.number l.self) l.at l.end

use Rattle.std.proofs.Common.{◌≡◌, ◌-◌, ◌^◌, min, take}
use Rattle.span_map.specs.Layout.{total_of}
use Rattle.span_map.proofs.layout.total_len.Given as goal

abbrev pub invariant-loop-file : goal.invariant-loop-file
invariant-loop-file l = l.total ≡ min (total_of (take l.file-index l.files)) (2 ^ 64 - 1)

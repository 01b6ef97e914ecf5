use Rattle.std.proofs.Common.{take}
use Rattle.std.specs.Prelude.{All}
use Rattle.span_map.specs.Paths.{IsValidPart}
use Rattle.span_map.proofs.paths.is_path.Given as goal

abbrev pub invariant-loop-place : goal.invariant-loop-place
invariant-loop-place l = All IsValidPart (take l.place l.path)

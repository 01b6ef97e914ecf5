use Rattle.std.proofs.Common.{take}
use Rattle.std.specs.Prelude.{All}
use Rattle.span_map.specs.Paths.{IsPath}
use Rattle.span_map.proofs.paths.valid_len.Given as goal

abbrev pub invariant-loop-count : goal.invariant-loop-count
invariant-loop-count l = All (λ file. IsPath file.path) (take l.count l.files)

use Rattle.std.proofs.Common.{◌≡◌, take, map}
use Rattle.span_map.proofs.paths.paths_of.Given as goal

abbrev pub invariant-loop-file : goal.invariant-loop-file
invariant-loop-file l = map (λ path. path.now) l.paths.items ≡ map (λ file. file.path) (take l.file-index l.files)

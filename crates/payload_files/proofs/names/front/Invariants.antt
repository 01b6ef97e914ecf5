use Rattle.std.proofs.Common.{◌≡◌, take, string_bytes}
use Rattle.payload_files.specs.Names.{path_text}
use Rattle.payload_files.proofs.names.front.Given as goal

abbrev pub invariant-loop-place : goal.invariant-loop-place
invariant-loop-place l = string_bytes l.text ≡ path_text (take l.place l.path)

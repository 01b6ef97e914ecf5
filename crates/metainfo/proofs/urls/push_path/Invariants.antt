use Rattle.std.proofs.Common.{◌≡◌, ◌++◌, take, map, string_bytes}
use Rattle.std.specs.List.{join_with_byte}
use Rattle.metainfo.specs.Urls.{escaped}
use Rattle.metainfo.proofs.urls.push_path.Given as goal

abbrev pub invariant-loop-place : goal.invariant-loop-place
invariant-loop-place l = string_bytes l.url ≡ string_bytes l.fn.url ++ join_with_byte 47 (map escaped (take l.place l.path))

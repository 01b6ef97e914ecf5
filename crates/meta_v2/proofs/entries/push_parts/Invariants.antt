use Rattle.std.proofs.Common.{◌≡◌, ◌++◌, true, map, take}
use Rattle.std.specs.List.{list_all}
use Rattle.metainfo.specs.Tests.{is_part}
use Rattle.meta_v2.proofs.entries.push_parts.Given as goal

abbrev pub invariant-loop-place : goal.invariant-loop-place
invariant-loop-place l =
    record {
      valid : list_all is_part (map (λ part. part.now) (take l.place l.parts)) ≡ true;
      path : l.path ≡ l.fn.path ++ map (λ part. part.now) (take l.place l.parts);
    }

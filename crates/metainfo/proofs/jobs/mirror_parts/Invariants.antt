use Rattle.std.proofs.Common.{◌≡◌, ◌<◌, ◌^◌, take, map}
use Rattle.std.specs.Prelude.{All}
use Rattle.span_map.specs.Jobs.{IsJobPart}
use Rattle.metainfo.specs.Jobs.{mirror_part}
use Rattle.metainfo.proofs.jobs.mirror_parts.Given as goal

abbrev pub invariant-each : goal.invariant-each
invariant-each l = record {
  asked : l.asked ≡ map (mirror_part l.layout l.base) (take l.part-index l.parts);
  ranges : All IsJobPart l.asked;
  bounded : All (λ part. part.total < 2 ^ 63) l.asked;
}

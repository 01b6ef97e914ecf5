use Rattle.std.proofs.Common.{ap, arith, length}
use Rattle.metainfo.proofs.Lengths.{part_within}
use Rattle.meta_v2.proofs.reading.meta_of.Goals as goal

pub info_hash_of-requires : goal.info_hash_of-requires
info_hash_of-requires c =
    omega (
      arith,
      ap length c.in_ok-file.ensures.spelled.spelled,
      part_within c.in_ok-file.file c.in_ok-info.info c.in_ok-file.ensures.place c.in_ok-info.ensures.slice,
    )

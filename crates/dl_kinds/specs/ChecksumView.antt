-- What contracts see of a checksum.
use Rattle.std.specs.Prelude.{ℕ, List}
use Rattle.dl_kinds.specs.declared.checksum.HashType.{HashType}

pub record ChecksumView : Type 0 where
  pub hash : HashType
  pub digest : List ℕ

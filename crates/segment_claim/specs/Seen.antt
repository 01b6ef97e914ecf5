-- What a scene keeps.
use Rattle.std.specs.Prelude.{◌≡◌, ℕ, List, length, take}
use Rattle.segment_claim.specs.Situation.{Situation, host_loads, mirror_count}
use Rattle.segment_claim.specs.Sound.{IsSituation}

-- the marks are of as many mirrors as there are hosts' numbers, and the loads are those of the mirrors' hosts
pub record IsScene (s : Situation) (mirrors : ℕ) (loads : List ℕ) : Type 0 where
  pub sound : IsSituation s
  pub marks : mirrors ≡ mirror_count s
  pub room : length loads ≡ 256
  pub loads_are : take (mirror_count s) loads ≡ host_loads s

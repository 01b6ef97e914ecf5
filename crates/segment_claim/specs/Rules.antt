-- What contracts see of the limits of claims.
use Rattle.std.specs.Prelude.{ℕ, Bool, List}

pub record Rules : Type 0 where
  pub split : ℕ  -- how many claims the payload is split into
  pub per_host : ℕ  -- how many claims may stand on a host
  pub min_blocks : ℕ  -- the least blocks of a claim where a stretch has so many
  pub hosts : List ℕ  -- the number of each mirror's host
  pub wanted : List Bool  -- the pieces that are to come

-- What a call of a link left in a buffer.
use Rattle.std.specs.Prelude.{◌≡◌, ◌≤◌, ℕ, List, ◌++◌, length, take}

-- the first bytes of a buffer, so many, came behind the old ones
pub record Gained (count : ℕ) (buffer old new : List ℕ) : Type 0 where
  pub within : count ≤ length buffer
  pub grows : new ≡ old ++ take count buffer

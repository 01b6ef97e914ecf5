-- Runs of false in a row.
use Rattle.std.specs.Prelude.{◌≡◌, ◌≢◌, ℕ, ◌+◌, ◌<◌, ◌≤◌, Bool, true, false, List, length, slice_get, Some}

-- from this place on, all is true
abbrev pub IsTrueFrom : List Bool → ℕ → Type 0
IsTrueFrom row from = (place : ℕ) → from ≤ place → place < length row → slice_get row place ≡ Some true

-- count places of false from `first` on are the first ones from `from` on, and no false follows them
pub record IsFirstRun (row : List Bool) (from first count : ℕ) : Type 0 where
  pub some : 0 < count
  pub later : from ≤ first
  pub before : (place : ℕ) → from ≤ place → place < first → slice_get row place ≡ Some true
  pub inside : (place : ℕ) → first ≤ place → place < first + count → slice_get row place ≡ Some false
  pub behind : slice_get row (first + count) ≢ Some false

-- What calls at each element of a slice leave.
use Rattle.std.specs.Prelude.{ℕ, List, ◌≡◌, ◌+◌, ◌<◌, length, slice_index_or}
use Rattle.std.specs.Fork.{ChangesAt, ChangesEach}
use denote.Ref.{MutBor}
use denote.Param.Members.{Shared}

module _ {F T : Type 0} (g : Shared F (ℕ × (MutBor T × Unit {0})) ((Unit {0}) × (MutBor T × Unit {0}))) (f : F) where
  -- each element is what a call left at its place
  pub record LeavesEach (xs ys : List T) : Type 0 where
    pub each : ChangesEach g f xs ys

  -- f may be called at each element of a part that begins at the place `from`
  pub record AcceptsFrom (from : ℕ) (xs : List T) : Type 0 where
    pub each : (i : ℕ) (p : MutBor T) → i < length xs → p.now ≡ slice_index_or xs i p.now
        → g.pre f (from + i, (p, tt))

  -- each element of a part that begins at the place `from` is what a call left there
  pub record ChangesFrom (from : ℕ) (xs ys : List T) : Type 0 where
    pub len : length ys ≡ length xs
    pub each : (i : ℕ) (d : T) → i < length xs
        → ChangesAt g f (from + i) (slice_index_or xs i d) (slice_index_or ys i d)

-- The order of paths, and neighbours in a list of paths.
use Rattle.std.specs.Prelude.{ℕ, ◌+◌, ◌<◌, List, length}
use Rattle.std.specs.List.{slice_index_or}
use Rattle.std.specs.Ordering.{nat_cmp}
use Rattle.std.specs.declared.cmp.Ordering.{Ordering}
use Rattle.std.specs.Cmp.Lexicographic.{slice_cmp}

-- by their parts, each by its bytes
abbrev pub paths_cmp : List (List ℕ) → List (List ℕ) → Ordering
paths_cmp a b = slice_cmp (slice_cmp nat_cmp) a b

-- some element is so related to the one that follows it
abbrev pub SomeNext : {X : Type 0} → (X → X → Type 0) → List X → Type 0
SomeNext {X} R xs =
    (k : ℕ) × (k + 1 < length xs) × ((d : X) → R (slice_index_or xs k d) (slice_index_or xs (k + 1) d))

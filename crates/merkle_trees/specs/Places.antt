-- Where two rows of leaves differ.
use Rattle.std.specs.Prelude.{ℕ, Bool, not, List, [], length, slice_index_or}
use Rattle.std.specs.List.{filter, range_with_len}
use Rattle.std.specs.Str.{bytes_eq}

-- whether the rows have different leaves at this place
abbrev pub differs_at : List (List ℕ) → List (List ℕ) → ℕ → Bool
differs_at wrong right place = not (bytes_eq (slice_index_or wrong place []) (slice_index_or right place []))

-- the places of different leaves, in ascending order
abbrev pub differing_places : List (List ℕ) → List (List ℕ) → List ℕ
differing_places wrong right = filter (differs_at wrong right) (range_with_len 0 (length wrong))

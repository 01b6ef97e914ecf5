-- How links make a list: of each number, the one behind it and the one before it. The ends are linked to 0.
use Rattle.std.specs.Prelude.{◌≡◌, ◌<◌, ◌≤◌, ℕ, zero, suc, true, List, [], ◌∷◌, length, slice_index}
use Rattle.number_list.specs.Order.{lists_number, NoneTwice}

-- the numbers that so many steps behind a number lead to
abbrev pub walk : ℕ → List ℕ → ℕ → List ℕ
walk zero next number = []
walk (suc steps) next number = slice_index next number ∷ walk steps next (slice_index next number)

-- the links lead from a number over others to a last one, and back
abbrev pub IsLinkedPath : List ℕ → List ℕ → ℕ → List ℕ → ℕ → Type 0
IsLinkedPath next previous from [] to = (slice_index next from ≡ to) × (slice_index previous to ≡ from)
IsLinkedPath next previous from (number ∷ others) to =
    (slice_index next from ≡ number) × (slice_index previous number ≡ from) × IsLinkedPath next previous number others to

pub record AreLinked (next previous : List ℕ) (bound : ℕ) (numbers : List ℕ) : Type 0 where
  pub next_len : bound ≤ length next
  pub previous_len : bound ≤ length previous
  pub path : IsLinkedPath next previous 0 numbers 0
  pub apart : NoneTwice (0 ∷ numbers)
  pub below : (number : ℕ) → lists_number numbers number ≡ true → number < bound

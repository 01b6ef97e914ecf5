-- What contracts see of a list of numbers.
use Rattle.std.specs.Prelude.{◌≡◌, ◌==◌, ◌||◌, ℕ, Bool, true, false, List, [], ◌∷◌}
use Rattle.std.specs.List.{list_any, position_or_len}

-- the numbers in order, and the bound below which all numbers are
pub record NumberOrder : Type 0 where
  pub order : List ℕ
  pub bound : ℕ

-- a number stands in a list
abbrev pub lists_number : List ℕ → ℕ → Bool
lists_number numbers number = list_any (λ other. number == other) numbers

-- the place of a number, and the length where it stands nowhere
abbrev pub number_place : List ℕ → ℕ → ℕ
number_place numbers number = position_or_len (λ other. number == other) numbers

-- a number that stands in a list, or 0 for the end
abbrev pub is_listed_or_end : List ℕ → ℕ → Bool
is_listed_or_end numbers number = (number == 0) || lists_number numbers number

-- no number stands twice
abbrev pub NoneTwice : List ℕ → Type 0
NoneTwice [] = Unit {0}
NoneTwice (number ∷ others) = (lists_number others number ≡ false) × NoneTwice others

-- the place in a list at which one is, by the number there
pub record IsAt (numbers : List ℕ) (number : ℕ) : Type 0 where
  pub listed : is_listed_or_end numbers number ≡ true
  pub distinct : NoneTwice (0 ∷ numbers)

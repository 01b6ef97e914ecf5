-- How far the members reach that begin at each file, and what is set of a row.
use Rattle.std.specs.Prelude.{◌≡◌, ◌⊎◌, ◌||◌, ◌+◌, ◌<◌, ◌≤◌, ℕ, Bool, true, Some, List, length, slice_get, slice_index}
use Rattle.std.specs.List.{list_any}
use Rattle.file_choice.specs.Selected.{holds_byte_of, names_file}

-- one of the first places reaches the number
pub record IsReached (reach : List ℕ) (places number : ℕ) : Type 0 where
  pub place : ℕ
  pub before : place < places
  pub far : number ≤ slice_index reach place

-- for each file, the last one that a member names whose first one it is; 0 where there is none
pub record AreReaches (members : List (List ℕ)) (files : ℕ) (reach : List ℕ) : Type 0 where
  pub long : length reach ≡ files + 1
  pub none : slice_index reach 0 ≡ 0
  pub named : (place number : ℕ) → place ≤ number → number ≤ slice_index reach place → 1 ≤ number
      → list_any (names_file number) members ≡ true
  pub reached : (number : ℕ) → number ≤ files → list_any (names_file number) members ≡ true
      → IsReached reach (number + 1) number

-- the farthest reach of the first places
pub record IsFarthest (reach : List ℕ) (places far : ℕ) : Type 0 where
  pub most : (place : ℕ) → place < places → slice_index reach place ≤ far
  pub attained : 1 ≤ far → IsReached reach places far

-- the values from here to before there are true, and the others stay
pub record IsSetBetween (first end : ℕ) (old new : List Bool) : Type 0 where
  pub long : length new ≡ length old
  pub inside : (place : ℕ) → first ≤ place → place < end → slice_get new place ≡ Some true
  pub others : (place : ℕ) → place < first ⊎ end ≤ place → slice_get new place ≡ slice_get old place

-- the pieces that hold a byte of a file that begins here are true, and the others stay
pub record AreMarked (total piece_len first len : ℕ) (old new : List Bool) : Type 0 where
  pub long : length new ≡ length old
  pub each : (piece : ℕ) (was : Bool) → slice_get old piece ≡ Some was
      → slice_get new piece ≡ Some (was || holds_byte_of total piece_len piece first len)

-- What the parts of the marks keep.
use Rattle.std.specs.Prelude.{◌≡◌, ℕ, ◌==◌, ◌<◌, ◌≤◌, ◌^◌, min, nat_lt, if◌then◌else◌, List, length, count_by, reverse, slice_index, All}
use Rattle.mirror_blame.specs.declared.blame.Blame.{Blame}
use Rattle.mirror_blame.specs.declared.places.Place.{Place}
use Rattle.mirror_blame.specs.Marks.{is_of}
use Rattle.mirror_blame.specs.Places.{ArePlaces}

-- the totals are those of the marks, and 0 where there are none yet
pub record AreTotals (totals : List ℕ) (mirrors : ℕ) (marks : List Blame) : Type 0 where
  pub few : length totals ≤ mirrors
  pub each : (mirror : ℕ) → slice_index totals mirror ≡ count_by (λ blame. blame.mirror == mirror) marks

-- each mark was given to a mirror that had a try left
pub record AreMarks (mirrors max_tries : ℕ) (marks : List Blame) : Type 0 where
  pub byte : max_tries < 2 ^ 8
  pub tries : (mirror piece : ℕ) → count_by (is_of mirror piece) marks ≤ max_tries
  pub known : All (λ blame. blame.mirror < mirrors) marks
  pub within : All (λ blame. blame.piece < 1048576) marks

-- the log has the oldest mark first
pub record KeepsMarks (mirrors max_tries : ℕ) (log : List Blame) (order : List Place) (totals : List ℕ) : Type 0 where
  pub marks : AreMarks mirrors max_tries (reverse log)
  pub places : ArePlaces order (reverse log)
  pub totals_are : AreTotals totals mirrors (reverse log)

-- room for how many more marks: none until each mirror has a total, then what both lists have room for
abbrev pub spare_of : ℕ → ℕ → ℕ → ℕ → ℕ
spare_of mirrors totals log order = if nat_lt totals mirrors then 0 else min log order

-- Laws of the functions that read the numbers and the ranges of a head.
use Rattle.std.specs.Prelude.{◌≡◌, ◌↔◌, ℕ, List, Some}
use Rattle.range_http.specs.declared.range.ContentRange.{ContentRange}
use Rattle.range_http.specs.Range.{WritesNumber, IsContentRange, number_of, range_of}

-- a number is read of the texts that spell it, and of no others
abbrev pub NumbersAreRead : Type 0
NumbersAreRead = (text : List ℕ) (number : ℕ) → (number_of text ≡ Some number) ↔ WritesNumber text number

-- and so is a range
abbrev pub RangesAreRead : Type 0
RangesAreRead = (text : List ℕ) (range : ContentRange) → (range_of text ≡ Some range) ↔ IsContentRange text range

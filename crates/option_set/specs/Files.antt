-- Numbers of files (aria2 manual, `--select-file`): members with commas between them, each one number or the first and the
-- last of a range with `-` between them. The bytes 44 and 45 are "," and "-".
use Rattle.std.specs.Prelude.{◌≡◌, ◌==◌, ◌≤◌, ℕ, Bool, List, [], ◌∷◌, length, All, Some, if◌then◌else◌}
use Rattle.std.specs.List.{slice_split, before_first, after_first, position_or_len}
use Rattle.option_set.specs.Numbers.{decimal_value}
use Rattle.option_set.specs.declared.files.TheConstants.{MAX_FILES}
use Rattle.option_set.specs.declared.files.FileRange.{FileRange}

abbrev pub is_dash : ℕ → Bool
is_dash byte = byte == 45

-- the number at the front of a member, and the one at its end: the whole member where no dash stands in it
abbrev pub first_text : List ℕ → List ℕ
first_text member = before_first is_dash member

abbrev pub last_text : List ℕ → List ℕ
last_text member = if position_or_len is_dash member == length member then member else after_first is_dash member

-- the member names the files from the first to the last, which are numbered from 1
pub record NamesFiles (member : List ℕ) (first last : ℕ) : Type 0 where
  pub first_is : decimal_value (first_text member) ≡ Some first
  pub last_is : decimal_value (last_text member) ≡ Some last
  pub some : 1 ≤ first
  pub order : first ≤ last
  pub most : last ≤ MAX_FILES

abbrev pub IsMember : List ℕ → Type 0
IsMember member = (first : ℕ) × (last : ℕ) × NamesFiles member first last

abbrev pub file_members : List ℕ → List (List ℕ)
file_members text = slice_split (λ byte. byte == 44) text

abbrev pub IsFileList : List ℕ → Type 0
IsFileList text = All IsMember (file_members text)

-- the ranges are those that the members name, in order
abbrev pub AreRanges : List (List ℕ) → List FileRange → Type 0
AreRanges [] [] = Unit {0}
AreRanges [] (range ∷ ranges) = ⊥
AreRanges (member ∷ members) [] = ⊥
AreRanges (member ∷ members) (range ∷ ranges) = NamesFiles member range.first range.last × AreRanges members ranges

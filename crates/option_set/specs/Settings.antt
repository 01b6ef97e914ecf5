-- Settings: options with a value each, and how they are read.
use Rattle.std.specs.Prelude.{◌≡◌, ◌≤◌, ℕ, List, Some, Contains, length, ◌<◌}
use Rattle.dl_kinds.specs.Gid.{IsGidText}
use Rattle.dl_kinds.specs.Checksum.{IsChecksum}
use Rattle.span_map.specs.Paths.{IsValidPart}
use Rattle.option_set.specs.declared.kinds.Num.{Num}
use Rattle.option_set.specs.declared.kinds.Opt.{Opt}
use Rattle.option_set.specs.declared.kinds.Opt.TheVariants as opt
use Rattle.option_set.specs.declared.kinds.Rule.{Rule}
use Rattle.option_set.specs.declared.kinds.Rule.TheVariants as rule
use Rattle.option_set.specs.Table.{row_of_number, row_of_text}
use Rattle.option_set.specs.Numbers.{number_value}
use Rattle.option_set.specs.Files.{IsFileList}

-- the number is within the option's limits
abbrev pub IsWithinLimits : Num → ℕ → Type 0
IsWithinLimits num value =
    ((row_of_number num).least ≤ value) × (value ≤ (row_of_number num).most)

-- the text is one that the rule lets stand. 0 is the byte NUL
abbrev pub MeetsRule : Rule → List ℕ → Type 0
MeetsRule rule.Filled text = 0 < length text
MeetsRule rule.Folder text = (0 < length text) × ¬ Contains text 0
MeetsRule rule.FilePart text = IsValidPart text
MeetsRule rule.Checksum text = IsChecksum text
MeetsRule rule.Gid text = IsGidText text
MeetsRule rule.FileList text = IsFileList text

-- the value is spelled as the option's values are
abbrev pub SpellsValue : Opt → List ℕ → Type 0
SpellsValue (opt.Num num) text = (value : ℕ) × (number_value (row_of_number num).spelling text ≡ Some value)
SpellsValue (opt.Word word) text = MeetsRule (row_of_text word).rule text

-- the text spells a number that isn't within the limits of the option of this name
pub record IsOutside (name text : List ℕ) (least most : ℕ) : Type 0 where
  pub num : Num
  pub value : ℕ
  pub name_is : (row_of_number num).option.name ≡ name
  pub value_is : number_value (row_of_number num).spelling text ≡ Some value
  pub outside : ¬ IsWithinLimits num value
  pub least_is : (row_of_number num).least ≡ least
  pub most_is : (row_of_number num).most ≡ most

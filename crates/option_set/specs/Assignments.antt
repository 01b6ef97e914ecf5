-- What contracts see of settings.
use Rattle.std.specs.Prelude.{◌≡◌, ℕ, List, None, Some, Result, Ok, Err}
use Rattle.option_set.specs.declared.kinds.Num.{Num}
use Rattle.option_set.specs.declared.kinds.Opt.{Opt}
use Rattle.option_set.specs.declared.kinds.Opt.TheVariants as opt
use Rattle.option_set.specs.declared.setting.Assigned.{Assigned}
use Rattle.option_set.specs.declared.setting.Assigned.TheVariants.{Number, Text}
use Rattle.option_set.specs.declared.setting.OptErr.{OptErr}
use Rattle.option_set.specs.declared.setting.OptErr.TheVariants.{Unknown, BadValue, OutOfRange, NoMemory}
use Rattle.option_set.specs.Table.{table_row, row_of_number, row_of_text}
use Rattle.option_set.specs.Numbers.{number_value}
use Rattle.option_set.specs.Settings.{IsWithinLimits, MeetsRule}

-- the option that is set
abbrev pub option_of : Assigned → Opt
option_of (Number num value) = opt.Num num
option_of (Text word text) = opt.Word word

-- the option may have the value
abbrev pub IsAssignable : Assigned → Type 0
IsAssignable (Number num value) = IsWithinLimits num value
IsAssignable (Text word text) = MeetsRule (row_of_text word).rule text

-- a value of an option spells this one
abbrev pub Assigns : List ℕ → Assigned → Type 0
Assigns value (Number num number) = number_value (row_of_number num).spelling value ≡ Some number
Assigns value (Text word text) = text ≡ value

-- this name and this value make this setting
pub record IsSettingOf (name value : List ℕ) (assigned : Assigned) : Type 0 where
  pub name_is : (table_row (option_of assigned)).name ≡ name
  pub value_is : Assigns value assigned
  pub assignable : IsAssignable assigned

-- .. and no setting at all
abbrev pub IsNoSetting : List ℕ → List ℕ → Type 0
IsNoSetting name value = (assigned : Assigned) → ¬ IsSettingOf name value assigned

-- what reading the value of an option of a number answers
abbrev pub ReadsNumber : Num → List ℕ → Result ℕ OptErr → Type 0
ReadsNumber num value (Ok number) =
    (number_value (row_of_number num).spelling value ≡ Some number) × IsWithinLimits num number
ReadsNumber num value (Err Unknown) = ⊥
ReadsNumber num value (Err BadValue) = number_value (row_of_number num).spelling value ≡ None
ReadsNumber num value (Err (OutOfRange least most)) =
    (number : ℕ) × (number_value (row_of_number num).spelling value ≡ Some number) × (¬ IsWithinLimits num number)
    × ((row_of_number num).least ≡ least) × ((row_of_number num).most ≡ most)
ReadsNumber num value (Err NoMemory) = ⊥

-- What the words of a command line mean.
use Rattle.std.specs.Prelude.{◌≡◌, ◌&&◌, ◌||◌, ℕ, Bool, true, false, not, List, [], ◌∷◌, ◌++◌, Option, Some, None, is_some, filter, fold, if◌then◌else◌}
use Rattle.clap.specs.Faults.{fault_of}
use Rattle.option_set.specs.declared.kinds.Num.TheVariants.{EnableRpc, Pause}
use Rattle.option_set.specs.declared.kinds.Opt.{Opt}
use Rattle.option_set.specs.declared.kinds.Opt.TheVariants as opt
use Rattle.option_set.specs.declared.kinds.WordUse.{WordUse}
use Rattle.option_set.specs.declared.kinds.WordUse.TheVariants.{Absent, OwnCall, GlobalValue}
use Rattle.option_set.specs.declared.setting.Assigned.{Assigned}
use Rattle.option_set.specs.Assignments.{IsSettingOf, option_of}
use Rattle.option_set.specs.Table.{table_row}
use Rattle.option_set.specs.Values.{OptionValues, default_values, with_setting}
use Rattle.command_line.specs.declared.line.CommandLine.{CommandLine}
use Rattle.command_line.specs.Command.{command_app, option_text, other_words, word_options}
use Rattle.command_line.specs.Sources.{IsSource}

-- what a text makes of an option: nothing where there is none, and else its one setting
abbrev pub AreSettingsOf : Opt → Option (List ℕ) → List Assigned → Type 0
AreSettingsOf option None settings = settings ≡ []
AreSettingsOf option (Some text) settings =
    (assigned : Assigned) × IsSettingOf (table_row option).name text assigned × (settings ≡ assigned ∷ [])

-- .. and what the texts of these options make of them, in their order
abbrev pub AreSettingsIn : (Opt → Option (List ℕ)) → List Opt → List Assigned → Type 0
AreSettingsIn text_of [] settings = settings ≡ []
AreSettingsIn text_of (option ∷ options) settings =
    (first rest : List Assigned)
    × AreSettingsOf option (text_of option) first × AreSettingsIn text_of options rest × (settings ≡ first ++ rest)

abbrev pub is_global_use : WordUse → Bool
is_global_use Absent = false
is_global_use OwnCall = false
is_global_use GlobalValue = true

abbrev pub is_pause : Opt → Bool
is_pause (opt.Num Pause) = true
is_pause option = false

-- a value for all downloads, or a setting of the one that the words name. Without a console nothing is paused, since
-- nobody could let it go on
abbrev pub is_global : Assigned → Bool
is_global assigned = is_global_use (table_row (option_of assigned)).use_of

abbrev pub is_own_setting : Bool → Assigned → Bool
is_own_setting console assigned = not (is_global assigned) && (console || not (is_pause (option_of assigned)))

abbrev pub with_global : OptionValues → Assigned → OptionValues
with_global values assigned = if is_global assigned then with_setting values assigned else values

-- the words ask for a console
abbrev pub has_console : List (List ℕ) → Bool
has_console words = is_some (option_text words (opt.Num EnableRpc))

-- the words mean this
pub record IsLine (words : List (List ℕ)) (line : CommandLine) : Type 0 where
  pub command : fault_of command_app words ≡ []
  pub assigned : List Assigned
  pub settings_are : AreSettingsIn (option_text words) word_options assigned
  pub globals : line.globals ≡ fold with_global default_values assigned
  pub settings : line.settings ≡ filter (is_own_setting (has_console words)) assigned
  pub source : IsSource (has_console words) (other_words words) line.source

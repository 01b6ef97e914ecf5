-- What a parse that succeeded holds.
use Rattle.std.specs.Prelude.{◌≡◌, ◌++◌, ℕ, List, [], ◌∷◌, Option, Some, None, filter, fold, Bool, is_some, unwrap_or}
use Rattle.std.specs.Option.{option_map}
use Rattle.clap.specs.Matches.{first_value, found_of, matched_of, raw_values}
use Rattle.clap.specs.declared.parser.matches.ArgMatches.{ArgMatches}
use Rattle.option_set.specs.declared.kinds.Num.TheVariants.{EnableRpc}
use Rattle.option_set.specs.declared.kinds.Opt.{Opt}
use Rattle.option_set.specs.declared.kinds.Opt.TheVariants as opt
use Rattle.option_set.specs.declared.setting.Assigned.{Assigned}
use Rattle.option_set.specs.Table.{table_row}
use Rattle.option_set.specs.Values.{default_values}
use Rattle.command_line.specs.declared.line.CommandLine.{CommandLine}
use Rattle.command_line.specs.declared.options.LineOptions.{LineOptions}
use Rattle.command_line.specs.Command.{given_text, is_word_option, others_name, word_options}
use Rattle.command_line.specs.Lines.{AreSettingsIn, is_own_setting, with_global}
use Rattle.command_line.specs.Sources.{IsSource}

abbrev pub found_text : ArgMatches → Opt → Option (List ℕ)
found_text matches option = given_text option (first_value (found_of matches) (table_row option).name)

abbrev pub found_others : ArgMatches → List (List ℕ)
found_others matches = unwrap_or (option_map raw_values (matched_of (found_of matches) others_name)) []

abbrev pub found_console : ArgMatches → Bool
found_console matches = is_some (found_text matches (opt.Num EnableRpc))

abbrev pub list_of : Option Assigned → List Assigned
list_of None = []
list_of (Some assigned) = assigned ∷ []

-- one setting more
pub record TakesSetting (console : Bool) (assigned : Assigned) (old new : LineOptions) : Type 0 where
  pub globals : new.globals ≡ with_global old.globals assigned
  pub settings : new.settings ≡ old.settings ++ filter (is_own_setting console) (assigned ∷ [])

-- what the texts make of one option more
pub record TakesOption (console : Bool) (text_of : Opt → Option (List ℕ)) (option : Opt) (old new : LineOptions) : Type 0 where
  pub assigned : List Assigned
  pub settings_are : AreSettingsIn text_of (filter is_word_option (option ∷ [])) assigned
  pub globals : new.globals ≡ fold with_global old.globals assigned
  pub settings : new.settings ≡ old.settings ++ filter (is_own_setting console) assigned

-- the values and settings that the texts of these options make
pub record MakeOptions (options : List Opt) (console : Bool) (text_of : Opt → Option (List ℕ)) (line : LineOptions) : Type 0 where
  pub assigned : List Assigned
  pub settings_are : AreSettingsIn text_of options assigned
  pub globals : line.globals ≡ fold with_global default_values assigned
  pub settings : line.settings ≡ filter (is_own_setting console) assigned

-- what a parse that succeeded means
pub record IsFoundLine (matches : ArgMatches) (line : CommandLine) : Type 0 where
  pub assigned : List Assigned
  pub settings_are : AreSettingsIn (found_text matches) word_options assigned
  pub globals : line.globals ≡ fold with_global default_values assigned
  pub settings : line.settings ≡ filter (is_own_setting (found_console matches)) assigned
  pub source : IsSource (found_console matches) (found_others matches) line.source

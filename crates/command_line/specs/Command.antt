-- The command (aria2 manual, "aria2c"): its options by long name and letter, one value each but for flags, and other words.
use Rattle.std.specs.Prelude.{◌||◌, ℕ, Bool, true, false, not, List, [], ◌∷◌, Option, Some, None, codes, filter, unwrap_or, if◌then◌else◌}
use Rattle.std.specs.Str.{bytes_eq}
use Rattle.clap.specs.Lexer.{usize_max}
use Rattle.clap.specs.Simple.{App, matches_of, new_rule, new_shape, with_rule}
use Rattle.clap.specs.Walk.{Rule, all_of, first_of}
use Rattle.clap.specs.declared.builder.action.ArgAction.{ArgAction}
use Rattle.clap.specs.declared.builder.action.ArgAction.TheVariants.{Append, Set, SetTrue}
use Rattle.option_set.specs.declared.kinds.Opt.{Opt}
use Rattle.option_set.specs.declared.kinds.Opt.TheVariants as opt
use Rattle.option_set.specs.declared.kinds.Spelling.{Spelling}
use Rattle.option_set.specs.declared.kinds.Spelling.TheVariants.{Plain, Size, Truth}
use Rattle.option_set.specs.declared.kinds.WordUse.{WordUse}
use Rattle.option_set.specs.declared.kinds.WordUse.TheVariants.{Absent, OwnCall, GlobalValue}
use Rattle.option_set.specs.Table.{all_options, row_of_number, table_row}

abbrev pub is_truth : Spelling → Bool
is_truth Plain = false
is_truth Size = false
is_truth Truth = true

-- a flag takes no value
abbrev pub is_flag : Opt → Bool
is_flag (opt.Num num) = is_truth (row_of_number num).spelling
is_flag (opt.Word word) = false

abbrev pub has_place_on_line : WordUse → Bool
has_place_on_line Absent = false
has_place_on_line OwnCall = true
has_place_on_line GlobalValue = true

-- an option that the command has
abbrev pub is_word_option : Opt → Bool
is_word_option option = has_place_on_line (table_row option).use_of

-- .. in the order of their names
abbrev pub word_options : List Opt
word_options = filter is_word_option all_options

abbrev pub option_action : Opt → ArgAction
option_action option = if is_flag option then SetTrue else Set

abbrev pub named_rule : List ℕ → Option ℕ → ArgAction → Rule
named_rule name letter action = record (new_rule name) { long = Some name; short = letter; action = Some action }

abbrev pub option_rule : Opt → Rule
option_rule option = named_rule (table_row option).name (table_row option).short (option_action option)

-- the other words: any number of them
abbrev pub others_name : List ℕ
others_name = codes "uri"

abbrev pub others_rule : Rule
others_rule = record (new_rule others_name) {
  action = Some Append;
  range = Some (record { start_inclusive = 0; end_inclusive = usize_max });
}

abbrev pub empty_app : App
empty_app = record {
  top = record (new_shape (codes "aria_cli")) {
    no_binary_name = true;
    disable_help_flag = true;
    disable_version_flag = true;
  };
  subs = [];
}

abbrev pub with_options : App → List Opt → App
with_options app [] = app
with_options app (option ∷ options) = with_options (with_rule app (option_rule option)) options

abbrev pub command_app : App
command_app = with_rule (with_options empty_app word_options) others_rule

-- a flag that isn't there has the text `false`, which is no value
abbrev pub is_given : Opt → List ℕ → Bool
is_given option text = not (is_flag option) || bytes_eq text (codes "true")

abbrev pub given_text : Opt → Option (List ℕ) → Option (List ℕ)
given_text option None = None
given_text option (Some text) = if is_given option text then Some text else None

-- what the words give an option, and the words that belong to none
abbrev pub option_text : List (List ℕ) → Opt → Option (List ℕ)
option_text words option = given_text option (first_of (table_row option).name (matches_of command_app words))

abbrev pub other_words : List (List ℕ) → List (List ℕ)
other_words words = unwrap_or (all_of others_name (matches_of command_app words)) []

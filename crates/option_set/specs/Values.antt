-- The values of all options (aria2 manual, `aria2.getOption`).
use Rattle.std.specs.Prelude.{◌≡◌, ◌==◌, ℕ, Bool, true, false, List, [], ◌∷◌, length, map, slice_index, slice_index_or, slice_set, Option, None, Some, IfSome, codes, decimal, if◌then◌else◌}
use Rattle.std.specs.List.{flat_map}
use Rattle.option_set.specs.declared.kinds.Num.{Num}
use Rattle.option_set.specs.declared.kinds.Num.TheVariants.{AutoSaveInterval, CheckIntegrity, EnableRpc, MaxConcurrentDownloads, MaxConnectionPerServer, MaxDownloadLimit, MaxOverallDownloadLimit, MaxTries, MinSplitSize, Pause, PieceLength, RpcListenPort, RpcMaxRequestSize, Split}
use Rattle.option_set.specs.declared.kinds.Word.{Word}
use Rattle.option_set.specs.declared.kinds.Word.TheVariants as word
use Rattle.option_set.specs.declared.kinds.Opt.{Opt}
use Rattle.option_set.specs.declared.kinds.Opt.TheVariants as opt
use Rattle.option_set.specs.declared.kinds.Spelling.{Spelling}
use Rattle.option_set.specs.declared.kinds.Spelling.TheVariants.{Plain, Size, Truth}
use Rattle.option_set.specs.declared.kinds.Scope.{Scope}
use Rattle.option_set.specs.declared.kinds.Scope.TheVariants.{Download, Global}
use Rattle.option_set.specs.declared.setting.Assigned.{Assigned}
use Rattle.option_set.specs.declared.setting.Assigned.TheVariants.{Number, Text}
use Rattle.option_set.specs.Table.{table_row, row_of_number, row_of_text, all_options}
use Rattle.option_set.specs.Settings.{IsWithinLimits, MeetsRule}

-- what contracts see: the numbers and the texts, each in the order in which the options of its kind are declared
pub record OptionValues : Type 0 where
  pub numbers : List ℕ
  pub texts : List (Option (List ℕ))

abbrev pub all_numbers : List Num
all_numbers =
    AutoSaveInterval ∷ CheckIntegrity ∷ EnableRpc ∷ MaxConcurrentDownloads
    ∷ MaxConnectionPerServer ∷ MaxDownloadLimit ∷ MaxOverallDownloadLimit ∷ MaxTries
    ∷ MinSplitSize ∷ Pause ∷ PieceLength ∷ RpcListenPort
    ∷ RpcMaxRequestSize ∷ Split ∷ []

abbrev pub all_words : List Word
all_words = word.Checksum ∷ word.Dir ∷ word.Gid ∷ word.Out ∷ word.RpcSecret ∷ word.SelectFile ∷ []

abbrev pub place_of_number : Num → ℕ
place_of_number AutoSaveInterval = 0
place_of_number CheckIntegrity = 1
place_of_number EnableRpc = 2
place_of_number MaxConcurrentDownloads = 3
place_of_number MaxConnectionPerServer = 4
place_of_number MaxDownloadLimit = 5
place_of_number MaxOverallDownloadLimit = 6
place_of_number MaxTries = 7
place_of_number MinSplitSize = 8
place_of_number Pause = 9
place_of_number PieceLength = 10
place_of_number RpcListenPort = 11
place_of_number RpcMaxRequestSize = 12
place_of_number Split = 13

abbrev pub place_of_word : Word → ℕ
place_of_word word.Checksum = 0
place_of_word word.Dir = 1
place_of_word word.Gid = 2
place_of_word word.Out = 3
place_of_word word.RpcSecret = 4
place_of_word word.SelectFile = 5

-- the value of an option
abbrev pub number_value : OptionValues → Num → ℕ
number_value values num = slice_index values.numbers (place_of_number num)

abbrev pub text_of_word : OptionValues → Word → Option (List ℕ)
text_of_word values word = slice_index_or values.texts (place_of_word word) None

-- every option has its default
abbrev pub default_values : OptionValues
default_values = record {
  numbers = map (λ num. (row_of_number num).default) all_numbers;
  texts = map (λ text. (row_of_text text).default) all_words;
}

-- the option that is set has the new value, and all others keep theirs
abbrev pub with_setting : OptionValues → Assigned → OptionValues
with_setting values (Number num value) =
    record values { numbers = slice_set values.numbers (place_of_number num) value }
with_setting values (Text text value) =
    record values { texts = slice_set values.texts (place_of_word text) (Some value) }

-- every option has a value that it may have
pub record AreValues (values : OptionValues) : Type 0 where
  pub numbers_len : length values.numbers ≡ 14
  pub texts_len : length values.texts ≡ 6
  pub within : (num : Num) → IsWithinLimits num (number_value values num)
  pub met : (text : Word) → IfSome (text_of_word values text) (MeetsRule (row_of_text text).rule)

-- a number as it is shown: a size in bytes
abbrev pub number_text : Spelling → ℕ → List ℕ
number_text Plain value = decimal value
number_text Size value = decimal value
number_text Truth value = if value == 0 then codes "false" else codes "true"

abbrev pub value_text : OptionValues → Opt → Option (List ℕ)
value_text values (opt.Num num) = Some (number_text (row_of_number num).spelling (number_value values num))
value_text values (opt.Word text) = text_of_word values text

abbrev pub is_of_downloads : Scope → Bool
is_of_downloads Download = true
is_of_downloads Global = false

-- aria2.getOption shows the options of downloads, aria2.getGlobalOption all but `rpc-secret`
abbrev pub is_shown : Scope → Opt → Bool
is_shown Download option = is_of_downloads (table_row option).scope
is_shown Global (opt.Word word.RpcSecret) = false
is_shown Global option = true

abbrev pub named_value : List ℕ → Option (List ℕ) → List (List ℕ × List ℕ)
named_value name None = []
named_value name (Some text) = (name, text) ∷ []

-- the name and the value of an option that is shown and has a value
abbrev pub shown_pairs : OptionValues → Scope → Opt → List (List ℕ × List ℕ)
shown_pairs values scope option =
    if is_shown scope option then named_value (table_row option).name (value_text values option) else []

-- .. of all options, in the ascending order of their names
abbrev pub shown_options : OptionValues → Scope → List (List ℕ × List ℕ)
shown_options values scope = flat_map (shown_pairs values scope) all_options

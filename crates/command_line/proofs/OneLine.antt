-- Words mean one line at most.
use Rattle.std.proofs.Common.{◌≡◌, ℕ, Bool, List, [], ◌∷◌, ◌++◌, Option, None, Some, filter, fold, refl, sym, ap, ◌∙◌, subst}
use Rattle.std.specs.Prelude.{All, Ok, Err}
use Rattle.std.proofs.lemmas.List.Elements.{All-head}
use Rattle.link_source.specs.Endpoint.{IsUsable}
use Rattle.option_set.specs.Assignments.{Assigns, IsSettingOf, option_of}
use Rattle.option_set.specs.Laws.{NamesAreApart}
use Rattle.option_set.specs.Numbers.{number_value}
use Rattle.option_set.specs.Table.{row_of_number, table_row}
use Rattle.option_set.specs.Values.{default_values}
use Rattle.option_set.specs.declared.kinds.Num.{Num}
use Rattle.option_set.specs.declared.kinds.Opt.{Opt}
use Rattle.option_set.specs.declared.setting.Assigned.{Assigned}
use Rattle.option_set.specs.declared.setting.Assigned.TheVariants.{Number, Text}
use Rattle.command_line.specs.Command.{option_text, other_words, word_options}
use Rattle.command_line.specs.LineLaws.{LinesAreOne}
use Rattle.command_line.specs.Lines.{AreSettingsIn, AreSettingsOf, has_console, is_own_setting, with_global}
use Rattle.command_line.specs.Sources.{AreUris, IsNoUrl, IsSource}
use Rattle.command_line.specs.declared.source.Source.{Source}
use Rattle.command_line.specs.declared.source.Source.TheVariants.{Console, Metainfo, Mirrors}

-- ---- settings

-- a text is one value of an option
value_one : (text : List ℕ) (one other : Assigned) → option_of one ≡ option_of other → Assigns text one
    → Assigns text other → one ≡ other
value_one text (Number num value) (Number other_num other_value) same is other =
    let nums : num ≡ other_num = cc in
    let there : number_value (row_of_number num).spelling text ≡ Some other_value =
    subst (λ (n : Num). number_value (row_of_number n).spelling text ≡ Some other_value) (sym nums) other in
    let some : Some value ≡ Some other_value = sym is ∙ there in
    let values : value ≡ other_value = cc in
    (λ i. Number (nums i) (values i))
value_one text (Number num value) (Text word other_text) same is other = absurd cc
value_one text (Text word own_text) (Number num value) same is other = absurd cc
value_one text (Text word own_text) (Text other_word other_text) same is other =
    let words : word ≡ other_word = cc in
    (λ i. Text (words i) ((is ∙ sym other) i))

module _ (apart : NamesAreApart) where
  setting_one : (option : Opt) (text : List ℕ) (one other : Assigned) → IsSettingOf (table_row option).name text one
      → IsSettingOf (table_row option).name text other → one ≡ other
  setting_one option text one other is also =
      value_one text one other
      (apart (option_of one) (option_of other) (is.name_is ∙ sym also.name_is)) is.value_is also.value_is

  settings_of_one : (option : Opt) (text : Option (List ℕ)) (one other : List Assigned) → AreSettingsOf option text one
      → AreSettingsOf option text other → one ≡ other
  settings_of_one option None one other is also = is ∙ sym also
  settings_of_one option (Some text) one other is also =
      is.2 ∙ (ap (λ (a : Assigned). a ∷ []) (setting_one option text is.0 also.0 is.1 also.1) ∙ sym also.2)

  settings_one : (text_of : Opt → Option (List ℕ)) (options : List Opt) (one other : List Assigned)
      → AreSettingsIn text_of options one → AreSettingsIn text_of options other → one ≡ other
  settings_one text_of [] one other is also = is ∙ sym also
  settings_one text_of (option ∷ options) one other is also =
      let first = settings_of_one option (text_of option) is.0 also.0 is.2 also.2 in
      let rest = settings_one text_of options is.1 also.1 is.3 also.3 in
      is.4 ∙ ((λ i. first i ++ rest i) ∙ sym also.4)

-- ---- sources

-- what can be asked is a URL
usable_is_url : {P : Type 0} (word : List ℕ) → IsUsable word → IsNoUrl word → P
usable_is_url word usable none =
    absurd (let clash : Ok usable.0 ≡ Err none.0 = sym usable.1 ∙ none.1 in cc)

-- .. so no metainfo file's name stands first among URIs
none_named : {P : Type 0} (words uris : List (List ℕ)) (file : List ℕ) (others : List (List ℕ))
    → words ≡ file ∷ others → words ≡ uris
    → AreUris uris → IsNoUrl file → P
none_named words uris file others is also are none =
    usable_is_url file
    (All-head IsUsable file others (subst (All IsUsable) (sym also ∙ is) are.usable)) none

source_one : (console : Bool) (words : List (List ℕ)) (one other : Source) → IsSource console words one
    → IsSource console words other → one ≡ other
source_one console words (Metainfo file uris) (Metainfo other_file other_uris) is also =
    let same : file ∷ uris ≡ other_file ∷ other_uris = sym is.0 ∙ also.0 in
    let files : file ≡ other_file = cc in
    let all : uris ≡ other_uris = cc in
    (λ i. Metainfo (files i) (all i))
source_one console words (Metainfo file uris) (Mirrors others) is also =
    none_named words others file uris is.0 also.0 also.2 is.1.no_url
source_one console words (Metainfo file uris) Console is also =
    absurd (let none : file ∷ uris ≡ [] = sym is.0 ∙ also.0 in cc)
source_one console words (Mirrors uris) (Metainfo file others) is also =
    none_named words uris file others also.0 is.0 is.2 also.1.no_url
source_one console words (Mirrors uris) (Mirrors others) is also = ap Mirrors (sym is.0 ∙ also.0)
source_one console words (Mirrors uris) Console is also = absurd (is.1 (sym is.0 ∙ also.0))
source_one console words Console (Metainfo file others) is also =
    absurd (let none : file ∷ others ≡ [] = sym also.0 ∙ is.0 in cc)
source_one console words Console (Mirrors uris) is also = absurd (also.1 (sym also.0 ∙ is.0))
source_one console words Console Console is also = refl

pub line_one : NamesAreApart → LinesAreOne
line_one apart words one other is also =
    let assigned = settings_one apart
    (option_text words) word_options is.assigned also.assigned is.settings_are also.settings_are in
    let globals : one.globals ≡ other.globals = is.globals
    ∙ (ap (fold with_global default_values) assigned ∙ sym also.globals) in
    let settings : one.settings ≡ other.settings =
    is.settings ∙ (ap (filter (is_own_setting (has_console words))) assigned ∙ sym also.settings) in
    let sources = source_one (has_console words) (other_words words) one.source other.source is.source also.source in
    (λ i. record { globals = globals i; settings = settings i; source = sources i })

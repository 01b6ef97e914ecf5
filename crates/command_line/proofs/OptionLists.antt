-- Options one after the other.
use Rattle.std.proofs.Common.{◌≡◌, ℕ, ◌+◌, ◌<◌, Bool, true, if◌then◌else◌, List, [], ◌∷◌, ◌++◌, Option, length, filter, fold, take, get_or, zero, suc, append_assoc, ap, sym, ◌∙◌, refl, arith, subst}
use Rattle.clap.specs.Simple.{App, with_rule}
use Rattle.std.proofs.lemmas.List.{take_more}
use Rattle.std.proofs.lemmas.List.Elements.{filter-append}
use Rattle.std.proofs.lemmas.List.Sums.{fold-append}
use Rattle.option_set.specs.declared.kinds.Opt.{Opt}
use Rattle.option_set.specs.declared.setting.Assigned.{Assigned}
use Rattle.command_line.specs.Command.{is_word_option, option_rule, with_options}
use Rattle.option_set.specs.Values.{default_values}
use Rattle.command_line.specs.declared.options.LineOptions.{LineOptions}
use Rattle.command_line.specs.Found.{MakeOptions, TakesOption, TakesSetting}
use Rattle.command_line.specs.Lines.{AreSettingsOf, AreSettingsIn, is_own_setting, with_global}

pub with_options_on : (app : App) (xs ys : List Opt) → with_options app (xs ++ ys) ≡ with_options (with_options app xs) ys
with_options_on app [] ys = refl
with_options_on app (x ∷ xs) ys = with_options_on (with_rule app (option_rule x)) xs ys

-- one option more of a list
pub words_more : (options : List Opt) (i : ℕ) (x : Opt) → i < length options
    → filter is_word_option (take (i + 1) options) ≡ filter is_word_option (take i options) ++ filter is_word_option (get_or options i x ∷ [])
words_more options i x within =
    ap (filter is_word_option) (take_more options i x within) ∙ filter-append is_word_option (take i options) (get_or options i x ∷ [])

-- settings of more options
pub settings_on : (text_of : Opt → Option (List ℕ)) (xs ys : List Opt) (settings more : List Assigned)
    → AreSettingsIn text_of xs settings → AreSettingsIn text_of ys more → AreSettingsIn text_of (xs ++ ys) (settings ++ more)
settings_on text_of [] ys settings more are also =
    subst (λ l. AreSettingsIn text_of ys (l ++ more)) (sym are) also
settings_on text_of (x ∷ xs) ys settings more are also =
    (are.0, are.1 ++ more, are.2, settings_on text_of xs ys are.1 more are.3 also, ap (λ l. l ++ more) are.4 ∙ append_assoc are.0 are.1 more)

-- the settings of options one after the other
settings_cut : (text_of : Opt → Option (List ℕ)) (xs ys : List Opt) (settings : List Assigned) → AreSettingsIn text_of (xs ++ ys) settings
    → ((front : List Assigned) × AreSettingsIn text_of xs front) × ((back : List Assigned) × AreSettingsIn text_of ys back)
settings_cut text_of [] ys settings are = (([], refl), (settings, are))
settings_cut text_of (x ∷ xs) ys settings are =
    let rest = settings_cut text_of xs ys are.1 are.3 in
    ((are.0 ++ rest.0.0, (are.0, rest.0.0, are.2, rest.0.1, refl)), rest.1)

-- the settings of the options are those of each of them
pub settings_at : (text_of : Opt → Option (List ℕ)) (options : List Opt) (i : ℕ) (d : Opt) (settings : List Assigned) → i < length options
    → AreSettingsIn text_of (filter is_word_option options) settings
    → (more : List Assigned) × AreSettingsIn text_of (filter is_word_option (get_or options i d ∷ [])) more
settings_at text_of [] i d settings within are = absurd (omega (arith, within))
settings_at text_of (x ∷ xs) zero d settings within are =
    (settings_cut text_of (filter is_word_option (x ∷ [])) (filter is_word_option xs) settings
    (subst (λ l. AreSettingsIn text_of l settings) (filter-append is_word_option (x ∷ []) xs) are)).0
settings_at text_of (x ∷ xs) (suc i) d settings within are =
    let rest = (settings_cut text_of (filter is_word_option (x ∷ [])) (filter is_word_option xs) settings
    (subst (λ l. AreSettingsIn text_of l settings) (filter-append is_word_option (x ∷ []) xs) are)).1 in
    settings_at text_of xs i d rest.0 (let w = within in omega arith) rest.1

-- ---- one turn of a loop

pub options_more : (app before after : App) (options : List Opt) (i : ℕ) (d : Opt) → i < length options
    → before ≡ with_options app (filter is_word_option (take i options))
    → after ≡ with_options before (filter is_word_option (get_or options i d ∷ []))
    → after ≡ with_options app (filter is_word_option (take (i + 1) options))
options_more app before after options i d within are more =
    more ∙ ap (λ a. with_options a (filter is_word_option (get_or options i d ∷ []))) are
    ∙ sym (with_options_on app (filter is_word_option (take i options)) (filter is_word_option (get_or options i d ∷ [])))
    ∙ ap (with_options app) (sym (words_more options i d within))

filter_one : (option : Opt) → is_word_option option ≡ true → filter is_word_option (option ∷ []) ≡ option ∷ []
filter_one option is = ap (λ test. if test then option ∷ [] else []) is

pub taken : (console : Bool) (text_of : Opt → Option (List ℕ)) (option : Opt) (old new : LineOptions) (assigned : Assigned)
    → is_word_option option ≡ true → AreSettingsOf option (text_of option) (assigned ∷ []) → TakesSetting console assigned old new
    → TakesOption console text_of option old new
taken console text_of option old new assigned is are takes = record {
  assigned = assigned ∷ [];
  settings_are = subst (λ l. AreSettingsIn text_of l (assigned ∷ [])) (sym (filter_one option is)) (assigned ∷ [], [], are, refl, refl);
  globals = takes.globals;
  settings = takes.settings;
}

pub made_more : (options : List Opt) (i : ℕ) (d : Opt) (console : Bool) (text_of : Opt → Option (List ℕ)) (old new : LineOptions) → i < length options
    → MakeOptions (filter is_word_option (take i options)) console text_of old → TakesOption console text_of (get_or options i d) old new
    → MakeOptions (filter is_word_option (take (i + 1) options)) console text_of new
made_more options i d console text_of old new within made takes = record {
  assigned = made.assigned ++ takes.assigned;
  settings_are =
      subst (λ l. AreSettingsIn text_of l (made.assigned ++ takes.assigned)) (sym (words_more options i d within))
      (settings_on text_of (filter is_word_option (take i options)) (filter is_word_option (get_or options i d ∷ []))
      made.assigned takes.assigned made.settings_are takes.settings_are);
  globals =
      takes.globals ∙ ap (λ values. fold with_global values takes.assigned) made.globals
      ∙ sym (fold-append with_global default_values made.assigned takes.assigned);
  settings =
      takes.settings ∙ ap (λ l. l ++ filter (is_own_setting console) takes.assigned) made.settings
      ∙ sym (filter-append (is_own_setting console) made.assigned takes.assigned);
}

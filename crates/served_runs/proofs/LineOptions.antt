-- What the options of a line are that asks for no console.
use Rattle.std.proofs.Common.{◌≡◌, ◌≤◌, ℕ, Bool, true, false, All, List, [], ◌∷◌, Option, Some, None, cond, eqb, filter, find, fold, length, refl, sym, ap, ◌∙◌, subst, arith, slice_set}
use Rattle.std.specs.Prelude.{◌<◌, is_some, slice_index}
use Rattle.std.specs.Str.{bytes_eq}
use Rattle.std.proofs.lemmas.Bool.{eqb-true, false≢true, eq-eqb}
use Rattle.std.proofs.lemmas.List.{get_or-set_other, get_or-set_same, length-set}
use Rattle.std.proofs.lemmas.List.Elements.{All-append, All-cons, All-head, All-nil, All-tail}
use Rattle.command_line.specs.Command.{option_text, word_options}
use Rattle.command_line.specs.Lines.{AreSettingsIn, AreSettingsOf, IsLine, has_console, is_global, is_own_setting, with_global}
use Rattle.command_line.specs.declared.line.CommandLine.{CommandLine}
use Rattle.machine_core.specs.Replays.{with_settings}
use Rattle.option_set.specs.Assignments.{IsAssignable, option_of}
use Rattle.option_set.specs.Settings.{IsWithinLimits}
use Rattle.option_set.specs.Table.{all_options, table_row}
use Rattle.option_set.specs.Values.{OptionValues, default_values, number_value, place_of_number, with_setting}
use Rattle.option_set.specs.declared.kinds.Num.{Num}
use Rattle.option_set.specs.declared.kinds.Num.TheVariants.{AutoSaveInterval, CheckIntegrity, EnableRpc, MaxConcurrentDownloads, MaxConnectionPerServer, MaxDownloadLimit, MaxOverallDownloadLimit, MaxTries, MinSplitSize, Pause, PieceLength, RpcListenPort, RpcMaxRequestSize, Split}
use Rattle.option_set.specs.declared.kinds.Word.TheVariants as word
use Rattle.option_set.specs.declared.kinds.Opt.{Opt}
use Rattle.option_set.specs.declared.kinds.Opt.TheVariants as opt
use Rattle.option_set.specs.declared.setting.Assigned.{Assigned}
use Rattle.option_set.specs.declared.setting.Assigned.TheVariants.{Number, Text}

-- ---- names

abbrev option_by : List ℕ → Option Opt
option_by name = find (λ option. bytes_eq (table_row option).name name) all_options

by_name : (option : Opt) → option_by (table_row option).name ≡ Some option
by_name (opt.Num AutoSaveInterval) = refl
by_name (opt.Num CheckIntegrity) = refl
by_name (opt.Num EnableRpc) = refl
by_name (opt.Num MaxConcurrentDownloads) = refl
by_name (opt.Num MaxConnectionPerServer) = refl
by_name (opt.Num MaxDownloadLimit) = refl
by_name (opt.Num MaxOverallDownloadLimit) = refl
by_name (opt.Num MaxTries) = refl
by_name (opt.Num MinSplitSize) = refl
by_name (opt.Num Pause) = refl
by_name (opt.Num PieceLength) = refl
by_name (opt.Num RpcListenPort) = refl
by_name (opt.Num RpcMaxRequestSize) = refl
by_name (opt.Num Split) = refl
by_name (opt.Word word.Checksum) = refl
by_name (opt.Word word.Dir) = refl
by_name (opt.Word word.Gid) = refl
by_name (opt.Word word.Out) = refl
by_name (opt.Word word.RpcSecret) = refl
by_name (opt.Word word.SelectFile) = refl

same_some : (a b : Opt) → Some a ≡ Some b → a ≡ b
same_some a b is = cc

apart : (a b : Opt) → (table_row a).name ≡ (table_row b).name → a ≡ b
apart a b same = same_some a b (sym (by_name a) ∙ ap option_by same ∙ by_name b)

-- ---- the settings of the words

-- the setting is what a text makes of its option
pub record IsTold (text_of : Opt → Option (List ℕ)) (a : Assigned) : Type 0 where
  pub text : List ℕ
  pub told : text_of (option_of a) ≡ Some text
  pub fits : IsAssignable a

one_told : (text_of : Opt → Option (List ℕ)) (option : Opt) (o : Option (List ℕ)) → text_of option ≡ o → (first : List Assigned)
    → AreSettingsOf option o first → All (IsTold text_of) first
one_told text_of option None at first is = subst (All (IsTold text_of)) (sym is) (All-nil (IsTold text_of))
one_told text_of option (Some text) at first is =
    subst (All (IsTold text_of)) (sym is.2)
    (All-cons (IsTold text_of) is.0 [] (record {
      text = text;
      told = ap text_of (apart (option_of is.0) option is.1.name_is) ∙ at;
      fits = is.1.assignable;
    }) (All-nil (IsTold text_of)))

all_told : (text_of : Opt → Option (List ℕ)) (options : List Opt) (assigned : List Assigned)
    → AreSettingsIn text_of options assigned → All (IsTold text_of) assigned
all_told text_of [] assigned is = subst (All (IsTold text_of)) (sym is) (All-nil (IsTold text_of))
all_told text_of (option ∷ options) assigned is =
    subst (All (IsTold text_of)) (sym is.4)
    (All-append (IsTold text_of) is.0 is.1 (one_told text_of option (text_of option) refl is.0 is.2)
    (all_told text_of options is.1 is.3))

-- ---- values

-- a download may be active, mirrors have tries, claims may stand, nothing is paused, and there is no console
pub record AreUsual (v : OptionValues) : Type 0 where
  pub many : length v.numbers ≡ 14
  pub active : 1 ≤ number_value v MaxConcurrentDownloads
  pub tries : 1 ≤ number_value v MaxTries
  pub per_host : 1 ≤ number_value v MaxConnectionPerServer
  pub split : 1 ≤ number_value v Split
  pub unpaused : number_value v Pause ≡ 0
  pub off : number_value v EnableRpc ≡ 0

defaults_usual : AreUsual default_values
defaults_usual = record {
  many = refl;
  active = omega arith;
  tries = omega arith;
  per_host = omega arith;
  split = omega arith;
  unpaused = refl;
  off = refl;
}

small : (n : Num) → place_of_number n < 14
small AutoSaveInterval = omega arith
small CheckIntegrity = omega arith
small EnableRpc = omega arith
small MaxConcurrentDownloads = omega arith
small MaxConnectionPerServer = omega arith
small MaxDownloadLimit = omega arith
small MaxOverallDownloadLimit = omega arith
small MaxTries = omega arith
small MinSplitSize = omega arith
small Pause = omega arith
small PieceLength = omega arith
small RpcListenPort = omega arith
small RpcMaxRequestSize = omega arith
small Split = omega arith

-- a value behind a setting: that of the setting, or as it was
value_behind : (v : OptionValues) (n f : Num) (x : ℕ) (P : ℕ → Type 0) → length v.numbers ≡ 14 → P (number_value v f)
    → (place_of_number f ≡ place_of_number n → P x) → P (number_value (with_setting v (Number n x)) f)
value_behind v n f x P many was new = by (eqb (place_of_number f) (place_of_number n)) refl
  where
    by : (b : Bool) → eqb (place_of_number f) (place_of_number n) ≡ b → P (number_value (with_setting v (Number n x)) f)
    by true at =
        let same = eqb-true (place_of_number f) (place_of_number n) at in
        let low : place_of_number n < length v.numbers = let few = small n in omega (arith, few, many) in
        subst P (sym (ap (slice_index (slice_set v.numbers (place_of_number n) x)) same
        ∙ get_or-set_same v.numbers (place_of_number n) x 0 low)) (new same)
    by false at = subst P (sym (get_or-set_other v.numbers (place_of_number n) (place_of_number f) x 0
        (λ same. false≢true (sym at ∙ eq-eqb (place_of_number f) (place_of_number n) same)))) was

active_by : (n : Num) (x : ℕ) → IsWithinLimits n x → place_of_number MaxConcurrentDownloads ≡ place_of_number n → 1 ≤ x
active_by MaxConcurrentDownloads x within same = within.0
active_by n x within same = absurd (omega (arith, same))

tries_by : (n : Num) (x : ℕ) → IsWithinLimits n x → place_of_number MaxTries ≡ place_of_number n → 1 ≤ x
tries_by MaxTries x within same = within.0
tries_by n x within same = absurd (omega (arith, same))

per_host_by : (n : Num) (x : ℕ) → IsWithinLimits n x → place_of_number MaxConnectionPerServer ≡ place_of_number n → 1 ≤ x
per_host_by MaxConnectionPerServer x within same = within.0
per_host_by n x within same = absurd (omega (arith, same))

split_by : (n : Num) (x : ℕ) → IsWithinLimits n x → place_of_number Split ≡ place_of_number n → 1 ≤ x
split_by Split x within same = within.0
split_by n x within same = absurd (omega (arith, same))

pause_at : (n : Num) → place_of_number Pause ≡ place_of_number n → n ≡ Pause
pause_at Pause same = refl
pause_at n same = absurd (omega (arith, same))

console_at : (n : Num) → place_of_number EnableRpc ≡ place_of_number n → n ≡ EnableRpc
console_at EnableRpc same = refl
console_at n same = absurd (omega (arith, same))

-- so they stay behind a setting that pauses nothing
setting_usual : (text_of : Opt → Option (List ℕ)) → is_some (text_of (opt.Num EnableRpc)) ≡ false → (v : OptionValues)
    → AreUsual v → (a : Assigned) → IsTold text_of a → (option_of a ≡ opt.Num Pause → ⊥) → AreUsual (with_setting v a)
setting_usual text_of none v usual (Number n x) is unpaused = record {
  many = length-set v.numbers (place_of_number n) x ∙ usual.many;
  active = value_behind v n MaxConcurrentDownloads x (λ y. 1 ≤ y) usual.many usual.active (active_by n x is.fits);
  tries = value_behind v n MaxTries x (λ y. 1 ≤ y) usual.many usual.tries (tries_by n x is.fits);
  per_host = value_behind v n MaxConnectionPerServer x (λ y. 1 ≤ y) usual.many usual.per_host (per_host_by n x is.fits);
  split = value_behind v n Split x (λ y. 1 ≤ y) usual.many usual.split (split_by n x is.fits);
  unpaused = value_behind v n Pause x (λ y. y ≡ 0) usual.many usual.unpaused
      (λ same. absurd (unpaused (ap opt.Num (pause_at n same))));
  off = value_behind v n EnableRpc x (λ y. y ≡ 0) usual.many usual.off
      (λ same. absurd (false≢true (sym none ∙ ap is_some (sym (ap (λ (k : Num). text_of (opt.Num k)) (console_at n same)) ∙ is.told))));
}
setting_usual text_of none v usual (Text word_of text) is unpaused = record {
  many = usual.many;
  active = usual.active;
  tries = usual.tries;
  per_host = usual.per_host;
  split = usual.split;
  unpaused = usual.unpaused;
  off = usual.off;
}

-- ---- a line

global_unpaused : (a : Assigned) → is_global a ≡ true → option_of a ≡ opt.Num Pause → ⊥
global_unpaused (Number Pause x) is same = absurd cc
global_unpaused (Number n x) is same = absurd cc
global_unpaused (Text word_of text) is same = absurd cc

own_unpaused : (a : Assigned) → is_own_setting false a ≡ true → option_of a ≡ opt.Num Pause → ⊥
own_unpaused (Number Pause x) is same = absurd cc
own_unpaused (Number n x) is same = absurd cc
own_unpaused (Text word_of text) is same = absurd cc

module _ (text_of : Opt → Option (List ℕ)) (none : is_some (text_of (opt.Num EnableRpc)) ≡ false) where
  global_usual : (b : Bool) (v : OptionValues) (a : Assigned) → is_global a ≡ b → AreUsual v → IsTold text_of a
      → AreUsual (cond b (with_setting v a) v)
  global_usual true v a at usual is = setting_usual text_of none v usual a is (global_unpaused a at)
  global_usual false v a at usual is = usual

  globals_usual : (assigned : List Assigned) (v : OptionValues) → AreUsual v → All (IsTold text_of) assigned
      → AreUsual (fold with_global v assigned)
  globals_usual [] v usual told = usual
  globals_usual (a ∷ assigned) v usual told =
      globals_usual assigned (with_global v a)
      (global_usual (is_global a) v a refl usual (All-head (IsTold text_of) a assigned told))
      (All-tail (IsTold text_of) a assigned told)

  owns_usual : (assigned : List Assigned) (v : OptionValues) → AreUsual v → All (IsTold text_of) assigned
      → AreUsual (with_settings v (filter (is_own_setting false) assigned))
  owns_usual [] v usual told = usual
  owns_usual (a ∷ assigned) v usual told =
      by (is_own_setting false a) refl
      (λ w usual_w. owns_usual assigned w usual_w (All-tail (IsTold text_of) a assigned told))
    where
      by : (b : Bool) → is_own_setting false a ≡ b
          → ((w : OptionValues) → AreUsual w → AreUsual (with_settings w (filter (is_own_setting false) assigned)))
          → AreUsual (with_settings v (cond b (a ∷ filter (is_own_setting false) assigned) (filter (is_own_setting false) assigned)))
      by true at rest = rest (with_setting v a)
          (setting_usual text_of none v usual a (All-head (IsTold text_of) a assigned told) (own_unpaused a at))
      by false at rest = rest v usual

-- the line's values, and those of its download
pub record LineUsual (line : CommandLine) : Type 0 where
  pub globals : AreUsual line.globals
  pub own : AreUsual (with_settings line.globals line.settings)

pub line_usual : (words : List (List ℕ)) (line : CommandLine) → IsLine words line → has_console words ≡ false → LineUsual line
line_usual words line means none =
    let told = all_told (option_text words) word_options means.assigned means.settings_are in
    let globals : AreUsual line.globals =
    subst AreUsual (sym means.globals) (globals_usual (option_text words) none means.assigned default_values defaults_usual told) in
    record {
      globals = globals;
      own = subst (λ (ss : List Assigned). AreUsual (with_settings line.globals ss))
          (sym (means.settings ∙ ap (λ (b : Bool). filter (is_own_setting b) means.assigned) none))
          (owns_usual (option_text words) none means.assigned line.globals globals told);
    }

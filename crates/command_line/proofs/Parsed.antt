-- Words one after the other, and what a parse holds by its rows.
use Rattle.std.proofs.Common.{◌≡◌, ℕ, ◌+◌, ◌<◌, Bool, true, false, if◌then◌else◌, Option, Some, None, Result, Ok, Err, is_some, IfOk, MatchOption, List, [], ◌∷◌, ◌++◌, length, map, take, get_or, ap, sym, ◌∙◌, refl, subst}
use Rattle.std.specs.Borrow.{Bor}
use Rattle.std.specs.Option.{option_and_then, option_map, unwrap_or}
use Rattle.std.specs.Str.{bytes_eq}
use Rattle.std.specs.List.{All, filter, find, slice_get}
use Rattle.std.proofs.lemmas.List.{take_more, get_or-map, length-map, map-append}
use Rattle.std.proofs.lemmas.List.Elements.{All-push}
use Rattle.link_source.specs.Endpoint.{IsUsable}
use Rattle.clap.specs.Facts.{Entry}
use Rattle.clap.specs.Faults.{fault_of}
use Rattle.clap.specs.Matches.{first_value, found_of, matched_of, raw_values}
use Rattle.clap.specs.Simple.{HasMatchesOf}
use Rattle.clap.specs.Walk.{Row, all_of, first_of, row_of, rows_of}
use Rattle.clap.specs.declared.parser.matches.ArgMatches.{ArgMatches}
use Rattle.clap.specs.declared.parser.matches.MatchedArg.{MatchedArg}
use Rattle.option_set.specs.declared.kinds.Num.TheVariants.{EnableRpc}
use Rattle.option_set.specs.declared.kinds.Opt.{Opt}
use Rattle.option_set.specs.declared.kinds.Opt.TheVariants as opt
use Rattle.option_set.specs.declared.setting.Assigned.{Assigned}
use Rattle.option_set.specs.Table.{table_row}
use Rattle.command_line.specs.Command.{command_app, given_text, option_text, other_words, others_name, word_options}
use Rattle.command_line.specs.Found.{IsFoundLine, found_console, found_others, found_text}
use Rattle.command_line.specs.Lines.{AreSettingsIn, AreSettingsOf, IsLine, has_console, is_own_setting}
use Rattle.command_line.specs.Sources.{AreUris, IsFirst, IsSource, words_of}
use Rattle.command_line.specs.declared.line.CommandLine.{CommandLine}

abbrev texts : List (Bor (List ℕ)) → List (List ℕ)
texts words = map (λ word. word.now) words

pub texts_more : (words : List (Bor (List ℕ))) (i : ℕ) (d : Bor (List ℕ)) (uris new : List (List ℕ)) (text : List ℕ) → i < length words
    → uris ≡ texts (take i words) → text ≡ (get_or words i d).now → new ≡ uris ++ text ∷ [] → new ≡ texts (take (i + 1) words)
texts_more words i d uris new text within are is more =
    more ∙ ap (λ l. l ++ text ∷ []) are ∙ ap (λ t. texts (take i words) ++ t ∷ []) is
    ∙ sym (ap texts (take_more words i d within) ∙ map-append (λ word. word.now) (take i words) (get_or words i d ∷ []))

pub usable_more : (uris new : List (List ℕ)) (text : List ℕ) → All IsUsable uris → IsUsable text → new ≡ uris ++ text ∷ [] → All IsUsable new
usable_more uris new text are is more = subst (λ l. All IsUsable l) (sym more) (All-push IsUsable uris text are is)

pub not_usable : (words : List (Bor (List ℕ))) (i : ℕ) (d : Bor (List ℕ)) → i < length words → (IsUsable (get_or words i d).now → ⊥) → AreUris (texts words) → ⊥
not_usable words i d within refused are =
    refused (subst (λ t. IsUsable t) (get_or-map (λ word. word.now) words i d d.now within) (are.usable i d.now (rw length-map within)))

-- ---- what a parse holds, and its rows

entry_row : (id : List ℕ) (es : List Entry) → find (λ r. bytes_eq r.id id) (map row_of es) ≡ option_map row_of (find (λ e. bytes_eq e.0.now id) es)
entry_row id [] = refl
entry_row id (e ∷ es) = choose (bytes_eq e.0.now id) (row_of e) e _ _ refl (entry_row id es)
  where
    choose : (test : Bool) (r : Row) (e : Entry) (rest : Option Row) (rest' : Option Entry) → r ≡ row_of e → rest ≡ option_map row_of rest'
        → (if test then Some r else rest) ≡ option_map row_of (if test then Some e else rest')
    choose true r e rest rest' is are = ap Some is
    choose false r e rest rest' is are = are

first_in : (xs : List (Bor (List ℕ))) → option_map (λ s. s.now) (slice_get xs 0) ≡ slice_get (map (λ s. s.now) xs) 0
first_in [] = refl
first_in (x ∷ xs) = refl

first_by_row : (o : Option Entry)
    → option_and_then (λ (a : MatchedArg). option_map (λ s. s.now) (slice_get a.vals.items 0)) (option_map (λ (e : Entry). e.1) o)
    ≡ option_and_then (λ (r : Row). slice_get r.values 0) (option_map row_of o)
first_by_row None = refl
first_by_row (Some e) = first_in e.1.vals.items

all_by_row : (o : Option Entry) → option_map raw_values (option_map (λ (e : Entry). e.1) o) ≡ option_map (λ (r : Row). r.values) (option_map row_of o)
all_by_row None = refl
all_by_row (Some e) = refl

pub first_is : (m : ArgMatches) (id : List ℕ) → first_value (found_of m) id ≡ first_of id (rows_of (found_of m))
first_is m id =
    first_by_row (find (λ e. bytes_eq e.0.now id) (found_of m).entries.items)
    ∙ ap (option_and_then (λ (r : Row). slice_get r.values 0)) (sym (entry_row id (found_of m).entries.items))

pub all_is : (m : ArgMatches) (id : List ℕ) → option_map raw_values (matched_of (found_of m) id) ≡ all_of id (rows_of (found_of m))
all_is m id =
    all_by_row (find (λ e. bytes_eq e.0.now id) (found_of m).entries.items)
    ∙ ap (option_map (λ (r : Row). r.values)) (sym (entry_row id (found_of m).entries.items))

-- the texts of the options are those of the words
text_is : (m : ArgMatches) (words : List (List ℕ)) → HasMatchesOf command_app words m → (option : Opt) → found_text m option ≡ option_text words option
text_is m words has option =
    ap (given_text option) (first_is m (table_row option).name ∙ ap (first_of (table_row option).name) (has refl).0)

others_are : (m : ArgMatches) (words : List (List ℕ)) → HasMatchesOf command_app words m → found_others m ≡ other_words words
others_are m words has = ap (λ o. unwrap_or o []) (all_is m others_name ∙ ap (all_of others_name) (has refl).0)

settings_by : (option : Opt) (a b : Option (List ℕ)) (settings : List Assigned) → a ≡ b → AreSettingsOf option a settings → AreSettingsOf option b settings
settings_by option a b settings same are = subst (λ t. AreSettingsOf option t settings) same are

settings_alike : (f g : Opt → Option (List ℕ)) → ((option : Opt) → f option ≡ g option) → (options : List Opt) (settings : List Assigned)
    → AreSettingsIn f options settings → AreSettingsIn g options settings
settings_alike f g same [] settings are = are
settings_alike f g same (o ∷ options) settings are =
    (are.0, are.1, settings_by o (f o) (g o) are.0 (same o) are.2, settings_alike f g same options are.1 are.3, are.4)

console_is : (m : ArgMatches) (words : List (List ℕ)) → HasMatchesOf command_app words m → found_console m ≡ has_console words
console_is m words has = ap is_some (text_is m words has (opt.Num EnableRpc))

pub line_from : (m : ArgMatches) (words : List (List ℕ)) (line : CommandLine) → HasMatchesOf command_app words m → fault_of command_app words ≡ []
    → IsFoundLine m line → IsLine words line
line_from m words line has free found = record {
  command = free;
  assigned = found.assigned;
  settings_are = settings_alike (found_text m) (option_text words) (text_is m words has) word_options found.assigned found.settings_are;
  globals = found.globals;
  settings = subst (λ t. line.settings ≡ filter (is_own_setting t) found.assigned) (console_is m words has) found.settings;
  source =
      subst (λ t. IsSource t (other_words words) line.source) (console_is m words has)
      (subst (λ l. IsSource (found_console m) l line.source) (others_are m words has) found.source);
}

pub line_to : (m : ArgMatches) (words : List (List ℕ)) (line : CommandLine) → HasMatchesOf command_app words m → IsLine words line → IsFoundLine m line
line_to m words line has is = record {
  assigned = is.assigned;
  settings_are = settings_alike (option_text words) (found_text m) (λ o. sym (text_is m words has o)) word_options is.assigned is.settings_are;
  globals = is.globals;
  settings = subst (λ t. line.settings ≡ filter (is_own_setting t) is.assigned) (sym (console_is m words has)) is.settings;
  source =
      subst (λ t. IsSource t (found_others m) line.source) (sym (console_is m words has))
      (subst (λ l. IsSource (has_console words) l line.source) (sym (others_are m words has)) is.source);
}

-- words that clap handed on
pub words_found : (found : Option (Bor (List (Bor (List ℕ))))) (o : Option (List (List ℕ))) → option_map (λ s. map (λ v. v.now) s.now) found ≡ o → words_of found ≡ unwrap_or o []
words_found None o is = ap (λ l. unwrap_or l []) is
words_found (Some words) o is = ap (λ l. unwrap_or l []) is

pub first_word : (words : List (Bor (List ℕ))) (first : List ℕ) → option_map (λ (w : Bor (List ℕ)). w.now) (slice_get words 0) ≡ Some first → IsFirst first (texts words)
first_word [] first is = absurd (let e : None ≡ Some first = is in cc)
first_word (w ∷ words) first is = (texts words, ap (λ t. t ∷ texts words) (let e : Some w.now ≡ Some first = is in cc))

-- what a command line means, by what the parse holds
read_by : (m : ArgMatches) (words : List (List ℕ)) (read : Option CommandLine) → HasMatchesOf command_app words m → fault_of command_app words ≡ []
    → MatchOption read ((line : CommandLine) → IsFoundLine m line → ⊥) (IsFoundLine m)
    → MatchOption read ((line : CommandLine) → IsLine words line → ⊥) (IsLine words)
read_by m words None has free none = λ line is. none line (line_to m words line has is)
read_by m words (Some line) has free found = line_from m words line has free found

pub all_read : {E : Type 0} (m : ArgMatches) (words : List (List ℕ)) (result : Result (Option CommandLine) E) → HasMatchesOf command_app words m
    → fault_of command_app words ≡ []
    → IfOk result (λ read. MatchOption read ((line : CommandLine) → IsFoundLine m line → ⊥) (IsFoundLine m))
    → IfOk result (λ read. MatchOption read ((line : CommandLine) → IsLine words line → ⊥) (IsLine words))
all_read m words (Ok read) has free found = read_by m words read has free found
all_read m words (Err e) has free found = found

pub by_none : {X : Type 0} (o : Option X) (P : Type 0) (Q : X → Type 0) → o ≡ None → MatchOption o P Q → P
by_none None P Q is holds = holds
by_none (Some x) P Q is holds = absurd (let e : Some x ≡ None = is in cc)

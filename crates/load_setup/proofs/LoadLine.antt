-- What the words of a load's run mean.
use Rattle.std.proofs.Common.{◌≡◌, ℕ, Bool, true, false, All, List, [], ◌∷◌, Option, Some, None, cond, drop, filter, fold, refl, sym, ap, ◌∙◌, subst}
use Rattle.std.specs.Prelude.{Err, Ok, codes, is_some, slice_index_or}
use Rattle.std.proofs.lemmas.Bool.{false≢true}
use Rattle.std.proofs.lemmas.List.Elements.{All-append, All-cons, All-head, All-nil, All-tail}
use Rattle.clap.specs.Walk.{walked}
use Rattle.command_line.specs.Command.{option_text, other_words, word_options}
use Rattle.command_line.specs.Lines.{AreSettingsIn, AreSettingsOf, has_console, is_global, is_own_setting, with_global}
use Rattle.command_line.specs.Sources.{IsSource}
use Rattle.command_line.specs.declared.source.Source.{Source}
use Rattle.command_line.specs.declared.source.Source.TheVariants.{Console, Metainfo, Mirrors}
use Rattle.link_source.specs.Endpoint.{IsUsable}
use Rattle.option_set.specs.Assignments.{option_of}
use Rattle.option_set.specs.Laws.{NamesAreApart}
use Rattle.option_set.specs.Values.{OptionValues, default_values, place_of_word, with_setting}
use Rattle.option_set.specs.declared.kinds.Num.TheVariants.{AutoSaveInterval, CheckIntegrity, EnableRpc, MaxConcurrentDownloads, MaxConnectionPerServer, MaxDownloadLimit, MaxOverallDownloadLimit, MaxTries, MinSplitSize, Pause, PieceLength, RpcListenPort, RpcMaxRequestSize, Split}
use Rattle.option_set.specs.declared.kinds.Word.TheVariants as word
use Rattle.option_set.specs.declared.kinds.Opt.{Opt}
use Rattle.option_set.specs.declared.kinds.Opt.TheVariants as opt
use Rattle.option_set.specs.declared.setting.Assigned.{Assigned}
use Rattle.option_set.specs.declared.setting.Assigned.TheVariants.{Number, Text}
use Rattle.url.specs.Input.{split_once, strip_tabs_and_new_lines, trim_c0_control_and_space}
use Rattle.url.specs.Parser.{parse_url, split_scheme}
use Rattle.url.specs.Scheme.{scheme_len}
use Rattle.url.specs.declared.error.ParseError.TheVariants.{RelativeUrlWithoutBase}
use Rattle.load_setup.specs.LoadLine.{WordsNameLoad}
use Rattle.load_setup.specs.Words.{run_words}
use Rattle.load_setup.proofs.RunLine.{is_line, others, run_line}

-- ---- the words

no_console : has_console run_words ≡ false
unfolding walked run_words
no_console = refl

-- of the texts for the options there are three
is_given : Opt → Bool
is_given (opt.Num MaxConnectionPerServer) = true
is_given (opt.Num MinSplitSize) = true
is_given (opt.Num Split) = true
is_given option = false

given_alone : (option : Opt) → is_some (option_text run_words option) ≡ is_given option
unfolding walked run_words is_given
given_alone (opt.Num AutoSaveInterval) = refl
given_alone (opt.Num CheckIntegrity) = refl
given_alone (opt.Num EnableRpc) = refl
given_alone (opt.Num MaxConcurrentDownloads) = refl
given_alone (opt.Num MaxConnectionPerServer) = refl
given_alone (opt.Num MaxDownloadLimit) = refl
given_alone (opt.Num MaxOverallDownloadLimit) = refl
given_alone (opt.Num MaxTries) = refl
given_alone (opt.Num MinSplitSize) = refl
given_alone (opt.Num Pause) = refl
given_alone (opt.Num PieceLength) = refl
given_alone (opt.Num RpcListenPort) = refl
given_alone (opt.Num RpcMaxRequestSize) = refl
given_alone (opt.Num Split) = refl
given_alone (opt.Word word.Checksum) = refl
given_alone (opt.Word word.Dir) = refl
given_alone (opt.Word word.Gid) = refl
given_alone (opt.Word word.Out) = refl
given_alone (opt.Word word.RpcSecret) = refl
given_alone (opt.Word word.SelectFile) = refl

no_url : IsUsable (codes "load.torrent") → ⊥
unfolding parse_url split_scheme strip_tabs_and_new_lines split_once scheme_len trim_c0_control_and_space
no_url is = let never : Err RelativeUrlWithoutBase ≡ Ok is.0 = is.1 in absurd cc

-- ---- what they set

abbrev IsGiven : Assigned → Type 0
IsGiven assigned = is_given (option_of assigned) ≡ true

module _ (apart : NamesAreApart) where
  one_given : (option : Opt) (text : Option (List ℕ)) → option_text run_words option ≡ text → (first : List Assigned)
      → AreSettingsOf option text first → All IsGiven first
  one_given option None at first is = subst (All IsGiven) (sym is) (All-nil IsGiven)
  one_given option (Some text) at first is =
      let given : is_given option ≡ true = sym (given_alone option) ∙ ap is_some at in
      subst (All IsGiven) (sym is.2)
      (All-cons IsGiven is.0 [] (ap is_given (apart (option_of is.0) option is.1.name_is) ∙ given) (All-nil IsGiven))

  all_given : (options : List Opt) (assigned : List Assigned) → AreSettingsIn (option_text run_words) options assigned
      → All IsGiven assigned
  all_given [] assigned is = subst (All IsGiven) (sym is) (All-nil IsGiven)
  all_given (option ∷ options) assigned is =
      subst (All IsGiven) (sym is.4)
      (All-append IsGiven is.0 is.1 (one_given option (option_text run_words option) refl is.0 is.2)
      (all_given options is.1 is.3))

not_own : (assigned : Assigned) → IsGiven assigned → is_own_setting false assigned ≡ false
unfolding is_given
not_own (Number MaxConnectionPerServer x) is = refl
not_own (Number MinSplitSize x) is = refl
not_own (Number Split x) is = refl
not_own (Number n x) is = absurd (false≢true is)
not_own (Text w text) is = absurd (false≢true is)

none_own : (assigned : List Assigned) → All IsGiven assigned → filter (is_own_setting false) assigned ≡ []
none_own [] are = refl
none_own (a ∷ assigned) are =
    ap (λ b. cond b (a ∷ filter (is_own_setting false) assigned) (filter (is_own_setting false) assigned))
    (not_own a (All-head IsGiven a assigned are))
    ∙ none_own assigned (All-tail IsGiven a assigned are)

same_texts : (b : Bool) (values : OptionValues) (assigned : Assigned) → IsGiven assigned
    → (cond b (with_setting values assigned) values).texts ≡ values.texts
unfolding is_given
same_texts true values (Number n x) is = refl
same_texts true values (Text w text) is = absurd (false≢true is)
same_texts false values assigned is = refl

texts_stay : (assigned : List Assigned) (values : OptionValues) → All IsGiven assigned
    → (fold with_global values assigned).texts ≡ values.texts
texts_stay [] values are = refl
texts_stay (a ∷ assigned) values are =
    texts_stay assigned (with_global values a) (All-tail IsGiven a assigned are)
    ∙ same_texts (is_global a) values a (All-head IsGiven a assigned are)

-- ---- what they name

first_one : (a b : List ℕ) (bs : List (List ℕ)) → a ∷ [] ≡ b ∷ bs → (b ≡ a) × (bs ≡ [])
first_one a b bs is = (
  sym (ap (λ (ws : List (List ℕ)). slice_index_or ws 0 a) is),
  sym (ap (λ (ws : List
      (List ℕ)). drop 1 ws) is),
)

source_is : (words : List (List ℕ)) (source : Source) → words ≡ codes "load.torrent" ∷ [] → IsSource false words source
    → source ≡ Metainfo (codes "load.torrent") []
source_is words (Metainfo file uris) are is =
    let both = first_one (codes "load.torrent") file uris (sym are ∙ is.0) in
    λ i. Metainfo (both.0 i) (both.1 i)
source_is words (Mirrors uris) are is =
    absurd (no_url (All-head IsUsable (codes "load.torrent") [] (subst (All IsUsable) (sym is.0 ∙ are) is.2.usable)))
source_is words Console are is = absurd (false≢true is.1)

pub words_name : NamesAreApart → WordsNameLoad
words_name apart = record {
  some = (run_line, is_line);
  off = no_console;
  line = λ line means.
      let given = all_given apart word_options means.assigned means.settings_are in
      let texts = ap (λ (v : OptionValues). v.texts) means.globals ∙ texts_stay means.assigned default_values given in
      record {
        source = source_is (other_words run_words) line.source others
            (subst (λ b. IsSource b (other_words run_words) line.source) no_console means.source);
        settings = means.settings ∙ ap (λ b. filter (is_own_setting b) means.assigned) no_console
            ∙ none_own means.assigned given;
        folder = ap (λ (ts : List (Option (List ℕ))). slice_index_or ts (place_of_word word.Dir) None) texts;
        files = ap (λ (ts : List (Option (List ℕ))). slice_index_or ts (place_of_word word.SelectFile) None) texts;
      };
}

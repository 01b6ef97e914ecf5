-- A load's word is no command line of downloads: the command has no option of its name.
use Rattle.std.proofs.Common.{◌≡◌, ℕ, List, [], ◌∷◌, Option, None, Some, sym, ◌∙◌, ap, drop}
use Rattle.std.specs.Prelude.{◌<◌, ◌^◌, MatchOption}
use Rattle.std.proofs.lemmas.Fmt.{decimal_injective}
use Rattle.clap.specs.Faults.{defaults_fault, fault_of, flags_fault, walk_fault}
use Rattle.clap.specs.Takes.{flags_pass, walk_passes}
use Rattle.clap.specs.Walk.{walked}
use Rattle.command_line.specs.Command.{command_app}
use Rattle.command_line.specs.Lines.{IsLine}
use Rattle.command_line.specs.declared.line.CommandLine.{CommandLine}
use Rattle.load_setup.specs.Words.{asking_word}
use Rattle.command_meanings.specs.Meanings.{AskForLoad, AskForNoRun, HaveMeaning}
use Rattle.command_meanings.specs.Modes.{AreCheckWords, AreServeWords}
use Rattle.command_meanings.specs.declared.meanings.Meaning.{Meaning}
use Rattle.command_meanings.specs.declared.modes.CheckLine.{CheckLine}
use Rattle.command_meanings.specs.declared.modes.ServeLine.{ServeLine}
use Rattle.command_meanings.specs.declared.meanings.Meaning.TheVariants.{Check, Download, Load, Serve}

faulty : (n : ℕ) → (fault_of command_app (asking_word n ∷ []) ≡ []) → ⊥
unfolding walked defaults_fault flags_fault walk_fault flags_pass walk_passes
faulty n none = absurd cc

pub no_line : (n : ℕ) (line : CommandLine) → IsLine (asking_word n ∷ []) line → ⊥
no_line n line is = faulty n is.command

-- ---- one word asks for one load

pub same_number : (m n : ℕ) → m < 2 ^ 64 → n < 2 ^ 64 → asking_word m ∷ [] ≡ asking_word n ∷ [] → m ≡ n
same_number m n low small is =
    decimal_injective m n low small (ap (λ (words : List (List ℕ)). drop 12 (head_of words)) is)
  where
    head_of : List (List ℕ) → List ℕ
    head_of [] = []
    head_of (word ∷ words) = word

-- neither a load nor a line, nor what else may be asked for
pub no_meaning : (words : List (List ℕ)) → AskForNoRun words → ((line : ServeLine) → AreServeWords words line → ⊥)
    → ((line : CheckLine) → AreCheckWords words line → ⊥) → (meaning : Meaning) → HaveMeaning words meaning → ⊥
no_meaning words none serve check (Download it) means = none.line it means
no_meaning words none serve check (Load n) means = none.load n means
no_meaning words none serve check (Serve it) means = serve it means.words_are
no_meaning words none serve check (Check it) means = check it means.words_are

pub none_found : {A P : Type 0} (Q : A → Type 0) (found : Option A) → found ≡ None → MatchOption found P Q → P
none_found Q None is holds = holds
none_found Q (Some x) is holds = absurd cc

pub same_load : (words : List (List ℕ)) (m n : ℕ) → AskForLoad words m → AskForLoad words n → m ≡ n
same_load words m n one other = same_number m n one.0 other.0 (sym one.1 ∙ other.1)

-- What words mean.
use Rattle.std.specs.Prelude.{◌≡◌, ◌<◌, ◌^◌, ℕ, List, [], ◌∷◌}
use Rattle.command_line.specs.Lines.{IsLine}
use Rattle.command_line.specs.declared.line.CommandLine.{CommandLine}
use Rattle.load_setup.specs.Words.{asking_word}
use Rattle.command_meanings.specs.Modes.{AreCheckWords, AreServeWords}
use Rattle.command_meanings.specs.declared.meanings.Meaning.{Meaning}
use Rattle.command_meanings.specs.declared.meanings.Meaning.TheVariants.{Check, Download, Load, Serve}
use Rattle.command_meanings.specs.declared.modes.CheckLine.{CheckLine}
use Rattle.command_meanings.specs.declared.modes.ServeLine.{ServeLine}

-- the words are the one that asks for the load of this number
abbrev pub AskForLoad : List (List ℕ) → ℕ → Type 0
AskForLoad words n = (n < 2 ^ 64) × (words ≡ asking_word n ∷ [])

-- they ask for neither a load nor downloads
pub record AskForNoRun (words : List (List ℕ)) : Type 0 where
  pub load : (n : ℕ) → AskForLoad words n → ⊥
  pub line : (line : CommandLine) → IsLine words line → ⊥

-- .. but for this folder to be served
pub record AskToServe (words : List (List ℕ)) (line : ServeLine) : Type 0 where
  pub alone : AskForNoRun words
  pub words_are : AreServeWords words line

-- .. or for this check
pub record AskToCheck (words : List (List ℕ)) (line : CheckLine) : Type 0 where
  pub alone : AskForNoRun words
  pub unserved : (other : ServeLine) → AreServeWords words other → ⊥
  pub words_are : AreCheckWords words line

abbrev pub HaveMeaning : List (List ℕ) → Meaning → Type 0
HaveMeaning words (Download line) = IsLine words line
HaveMeaning words (Load n) = AskForLoad words n
HaveMeaning words (Serve line) = AskToServe words line
HaveMeaning words (Check line) = AskToCheck words line

abbrev pub LackMeaning : List (List ℕ) → Type 0
LackMeaning words = (meaning : Meaning) → HaveMeaning words meaning → ⊥

-- no words ask for both a load and downloads
abbrev pub LoadWordsAreNoLine : Type 0
LoadWordsAreNoLine = (n : ℕ) (line : CommandLine) → IsLine (asking_word n ∷ []) line → ⊥

-- The options, each by its row (aria2 manual, "OPTIONS"; the limits of `split`, `piece-length`, `max-tries`, the speed
-- limits and `max-concurrent-downloads`, and which calls change what, are this program's own).
use Rattle.std.specs.Prelude.{ℕ, Option, None, Some, List, [], ◌∷◌, codes, Bool, true, false}
use Rattle.option_set.specs.declared.kinds.Num.{Num}
use Rattle.option_set.specs.declared.kinds.Num.TheVariants.{AutoSaveInterval, CheckIntegrity, EnableRpc, MaxConcurrentDownloads, MaxConnectionPerServer, MaxDownloadLimit, MaxOverallDownloadLimit, MaxTries, MinSplitSize, Pause, PieceLength, RpcListenPort, RpcMaxRequestSize, Split}
use Rattle.option_set.specs.declared.kinds.Word.{Word}
use Rattle.option_set.specs.declared.kinds.Word.TheVariants as word
use Rattle.option_set.specs.declared.kinds.Opt.{Opt}
use Rattle.option_set.specs.declared.kinds.Opt.TheVariants as opt
use Rattle.option_set.specs.declared.kinds.Spelling.{Spelling}
use Rattle.option_set.specs.declared.kinds.Spelling.TheVariants.{Plain, Size, Truth}
use Rattle.option_set.specs.declared.kinds.Rule.{Rule}
use Rattle.option_set.specs.declared.kinds.Rule.TheVariants as rule
use Rattle.option_set.specs.declared.kinds.Scope.{Scope}
use Rattle.option_set.specs.declared.kinds.Scope.TheVariants.{Download, Global}
use Rattle.option_set.specs.declared.kinds.Change.{Change}
use Rattle.option_set.specs.declared.kinds.Change.TheVariants.{Never, Globally, Always}
use Rattle.option_set.specs.declared.kinds.WordUse.{WordUse}
use Rattle.option_set.specs.declared.kinds.WordUse.TheVariants.{Absent, OwnCall, GlobalValue}

-- what each option has: its long name, its short letter, whom it is for, who changes it, and its use on the command line
pub record OptionRow : Type 0 where
  pub name : List ℕ
  pub short : Option ℕ
  pub scope : Scope
  pub change : Change
  pub use_of : WordUse

-- an option of a number has a spelling, a default and limits besides
pub record NumberRow : Type 0 where
  pub option : OptionRow
  pub spelling : Spelling
  pub default : ℕ
  pub least : ℕ
  pub most : ℕ

-- an option of a text has a rule and may have a default
pub record TextRow : Type 0 where
  pub option : OptionRow
  pub rule : Rule
  pub default : Option (List ℕ)

abbrev pub number_row : List ℕ → Option ℕ → Spelling → ℕ → ℕ → ℕ → Scope → Change → WordUse → NumberRow
number_row name short spelling default least most scope change use_of = record {
  option = record { name = name; short = short; scope = scope; change = change; use_of = use_of };
  spelling = spelling;
  default = default;
  least = least;
  most = most;
}

abbrev pub text_row : List ℕ → Option ℕ → Rule → Option (List ℕ) → Scope → Change → WordUse → TextRow
text_row name short rule default scope change use_of = record {
  option = record { name = name; short = short; scope = scope; change = change; use_of = use_of };
  rule = rule;
  default = default;
}

-- name, short letter, spelling, default, least, most, scope, who changes it, use on the command line. A K is 1,024 and an
-- M is 1,048,576
abbrev pub row_of_number : Num → NumberRow
row_of_number AutoSaveInterval = number_row (codes "auto-save-interval") None Plain 60 0 600 Download Never GlobalValue
row_of_number CheckIntegrity = number_row (codes "check-integrity") (Some 86) Truth 0 0 1 Download Globally GlobalValue
row_of_number EnableRpc = number_row (codes "enable-rpc") None Truth 0 0 1 Global Never GlobalValue
row_of_number MaxConcurrentDownloads = number_row (codes "max-concurrent-downloads") (Some 106) Plain 5 1 64 Global Globally GlobalValue
row_of_number MaxConnectionPerServer = number_row (codes "max-connection-per-server") (Some 120) Plain 1 1 16 Download Always GlobalValue
row_of_number MaxDownloadLimit = number_row (codes "max-download-limit") None Size 0 0 4294967295 Download Always GlobalValue
row_of_number MaxOverallDownloadLimit = number_row (codes "max-overall-download-limit") None Size 0 0 4294967295 Global Globally GlobalValue
row_of_number MaxTries = number_row (codes "max-tries") (Some 109) Plain 5 1 100 Download Globally GlobalValue
row_of_number MinSplitSize = number_row (codes "min-split-size") (Some 107) Size 20971520 1048576 1073741824 Download Always GlobalValue
row_of_number Pause = number_row (codes "pause") None Truth 0 0 1 Download Never OwnCall
row_of_number PieceLength = number_row (codes "piece-length") None Size 1048576 1048576 67108864 Download Globally GlobalValue
row_of_number RpcListenPort = number_row (codes "rpc-listen-port") None Plain 6800 1024 65535 Global Never GlobalValue
row_of_number RpcMaxRequestSize = number_row (codes "rpc-max-request-size") None Size 2097152 16384 67108864 Global Never GlobalValue
row_of_number Split = number_row (codes "split") (Some 115) Plain 5 1 64 Download Always GlobalValue

-- name, short letter, rule, default, scope, who changes it, use on the command line
abbrev pub row_of_text : Word → TextRow
row_of_text word.Checksum = text_row (codes "checksum") None rule.Checksum None Download Never OwnCall
row_of_text word.Dir = text_row (codes "dir") (Some 100) rule.Folder (Some (codes ".")) Download Globally GlobalValue
row_of_text word.Gid = text_row (codes "gid") None rule.Gid None Download Never Absent
row_of_text word.Out = text_row (codes "out") (Some 111) rule.FilePart None Download Never OwnCall
row_of_text word.RpcSecret = text_row (codes "rpc-secret") None rule.Filled None Global Never GlobalValue
row_of_text word.SelectFile = text_row (codes "select-file") None rule.FileList None Download Never OwnCall

abbrev pub table_row : Opt → OptionRow
table_row (opt.Num number) = (row_of_number number).option
table_row (opt.Word text) = (row_of_text text).option

-- the options in the ascending order of their names
abbrev pub all_options : List Opt
all_options =
    opt.Num AutoSaveInterval ∷ opt.Num CheckIntegrity ∷ opt.Word word.Checksum ∷ opt.Word word.Dir ∷ opt.Num EnableRpc
    ∷ opt.Word word.Gid ∷ opt.Num MaxConcurrentDownloads ∷ opt.Num MaxConnectionPerServer ∷ opt.Num MaxDownloadLimit
    ∷ opt.Num MaxOverallDownloadLimit ∷ opt.Num MaxTries ∷ opt.Num MinSplitSize ∷ opt.Word word.Out ∷ opt.Num Pause
    ∷ opt.Num PieceLength ∷ opt.Num RpcListenPort ∷ opt.Num RpcMaxRequestSize ∷ opt.Word word.RpcSecret
    ∷ opt.Word word.SelectFile ∷ opt.Num Split ∷ []

-- aria2.changeOption takes it
abbrev pub is_changed_by_option : Change → Bool
is_changed_by_option Never = false
is_changed_by_option Globally = false
is_changed_by_option Always = true

-- aria2.changeGlobalOption takes it
abbrev pub is_changed_globally : Change → Bool
is_changed_globally Never = false
is_changed_globally Globally = true
is_changed_globally Always = true

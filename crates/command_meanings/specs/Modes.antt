-- The words of what is done without downloads. Each option has a long name and one value, and may stand once.
use Rattle.std.specs.Prelude.{◌≡◌, ℕ, List, [], Option, Some, None, IfSome, codes, unwrap_or}
use Rattle.clap.specs.Faults.{fault_of}
use Rattle.clap.specs.Matches.{first_value, found_of}
use Rattle.clap.specs.Simple.{App, matches_of, with_rule}
use Rattle.clap.specs.Walk.{first_of}
use Rattle.clap.specs.declared.builder.action.ArgAction.TheVariants.{Set}
use Rattle.clap.specs.declared.parser.matches.ArgMatches.{ArgMatches}
use Rattle.command_line.specs.Command.{empty_app, named_rule}
use Rattle.option_set.specs.declared.kinds.Num.TheVariants.{RpcListenPort}
use Rattle.option_set.specs.declared.kinds.Rule.TheVariants.{Folder}
use Rattle.option_set.specs.declared.setting.Assigned.{Assigned}
use Rattle.option_set.specs.Assignments.{IsSettingOf}
use Rattle.option_set.specs.Settings.{MeetsRule}
use Rattle.option_set.specs.Values.{default_values, number_value, with_setting}
use Rattle.command_meanings.specs.declared.modes.CheckLine.{CheckLine}
use Rattle.command_meanings.specs.declared.modes.ServeLine.{ServeLine}

abbrev pub with_option : App → List ℕ → App
with_option app name = with_rule app (named_rule name None Set)

-- ---- a folder is to be served

abbrev pub serve_app : App
serve_app = with_option (with_option empty_app (codes "serve-dir")) (codes "rpc-listen-port")

-- the port that a text names; without one that of the option
abbrev pub IsPortOf : Option (List ℕ) → ℕ → Type 0
IsPortOf None port = port ≡ number_value default_values RpcListenPort
IsPortOf (Some text) port =
    (assigned : Assigned) × IsSettingOf (codes "rpc-listen-port") text assigned
    × (port ≡ number_value (with_setting default_values assigned) RpcListenPort)

-- the texts of a folder's name and of a port
pub record AreServeTexts (dir port : Option (List ℕ)) (line : ServeLine) : Type 0 where
  pub dir_is : dir ≡ Some line.dir
  pub folder : MeetsRule Folder line.dir
  pub port_is : IsPortOf port line.port

abbrev pub serve_text : List (List ℕ) → List ℕ → Option (List ℕ)
serve_text words name = first_of name (matches_of serve_app words)

-- the words ask for this folder to be served
pub record AreServeWords (words : List (List ℕ)) (line : ServeLine) : Type 0 where
  pub command : fault_of serve_app words ≡ []
  pub texts : AreServeTexts (serve_text words (codes "serve-dir")) (serve_text words (codes "rpc-listen-port")) line

abbrev pub found_text : ArgMatches → List ℕ → Option (List ℕ)
found_text matches name = first_value (found_of matches) name

-- .. what a parse that succeeded holds
abbrev pub IsFoundServe : ArgMatches → ServeLine → Type 0
IsFoundServe matches line =
    AreServeTexts (found_text matches (codes "serve-dir")) (found_text matches (codes "rpc-listen-port")) line

-- ---- a payload is to be checked

abbrev pub check_app : App
check_app =
    with_option (with_option (with_option empty_app (codes "verify-v2")) (codes "dir")) (codes "copy-dir")

-- the texts of a metainfo file's name, of a folder's and of a copy's; the working folder is meant where none is named
pub record AreCheckTexts (file dir copy : Option (List ℕ)) (line : CheckLine) : Type 0 where
  pub file_is : file ≡ Some line.file
  pub dir_is : line.dir ≡ unwrap_or dir (codes ".")
  pub copy_is : line.copy ≡ copy
  pub named : MeetsRule Folder line.file
  pub folder : MeetsRule Folder line.dir
  pub other : IfSome line.copy (MeetsRule Folder)

abbrev pub check_text : List (List ℕ) → List ℕ → Option (List ℕ)
check_text words name = first_of name (matches_of check_app words)

-- the words ask for this check
pub record AreCheckWords (words : List (List ℕ)) (line : CheckLine) : Type 0 where
  pub command : fault_of check_app words ≡ []
  pub texts : AreCheckTexts (check_text words (codes "verify-v2")) (check_text words (codes "dir"))
      (check_text words (codes "copy-dir")) line

abbrev pub IsFoundCheck : ArgMatches → CheckLine → Type 0
IsFoundCheck matches line =
    AreCheckTexts (found_text matches (codes "verify-v2")) (found_text matches (codes "dir"))
    (found_text matches (codes "copy-dir")) line

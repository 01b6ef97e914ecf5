use Rattle.std.proofs.Common.{◌≡◌, ℕ, Bool, true, List, refl, slice_index_or, sym, subst}
use Rattle.std.specs.Prelude.{filter}
use Rattle.std.proofs.lemmas.List.Elements.{filter_passes}
use Rattle.command_line.specs.Command.{other_words}
use Rattle.command_line.specs.Lines.{has_console, is_own_setting}
use Rattle.command_line.specs.Sources.{IsSource}
use Rattle.command_line.specs.declared.source.Source.{Source}
use Rattle.command_line.specs.declared.source.Source.TheVariants as source
use Rattle.command_call.specs.Sources.{AreNamed}
use Rattle.machine_core.specs.LawfulCalls.{AreOfDownloads}
use Rattle.option_set.specs.Assignments.{option_of}
use Rattle.option_set.specs.Table.{table_row}
use Rattle.option_set.specs.Values.{is_of_downloads}
use Rattle.option_set.specs.declared.kinds.Num.TheVariants as num
use Rattle.option_set.specs.declared.kinds.Word.TheVariants as word
use Rattle.option_set.specs.declared.setting.Assigned.{Assigned}
use Rattle.option_set.specs.declared.setting.Assigned.TheVariants.{Number, Text}
use Rattle.command_call.proofs.laws.lines_are_lawful.Goals as goal

named : (console : Bool) (words : List (List ℕ)) (named_by : Source) → IsSource console words named_by → AreNamed named_by
named console words (source.Metainfo file uris) is = is.2
named console words (source.Mirrors uris) is = (is.1, is.2)
named console words source.Console is = tt

-- what is no value for all downloads is of one
of_downloads : (console : Bool) (setting : Assigned) → is_own_setting console setting ≡ true
    → is_of_downloads (table_row (option_of setting)).scope ≡ true
of_downloads console (Number num.AutoSaveInterval value) own = refl
of_downloads console (Number num.CheckIntegrity value) own = refl
of_downloads console (Number num.EnableRpc value) own = absurd cc
of_downloads console (Number num.MaxConcurrentDownloads value) own = absurd cc
of_downloads console (Number num.MaxConnectionPerServer value) own = refl
of_downloads console (Number num.MaxDownloadLimit value) own = refl
of_downloads console (Number num.MaxOverallDownloadLimit value) own = absurd cc
of_downloads console (Number num.MaxTries value) own = refl
of_downloads console (Number num.MinSplitSize value) own = refl
of_downloads console (Number num.Pause value) own = refl
of_downloads console (Number num.PieceLength value) own = refl
of_downloads console (Number num.RpcListenPort value) own = absurd cc
of_downloads console (Number num.RpcMaxRequestSize value) own = absurd cc
of_downloads console (Number num.Split value) own = refl
of_downloads console (Text word.Checksum text) own = refl
of_downloads console (Text word.Dir text) own = refl
of_downloads console (Text word.Gid text) own = refl
of_downloads console (Text word.Out text) own = refl
of_downloads console (Text word.RpcSecret text) own = absurd cc
of_downloads console (Text word.SelectFile text) own = refl

options : (console : Bool) (assigned : List Assigned) → AreOfDownloads (filter (is_own_setting console) assigned)
options console assigned k d in_range =
    of_downloads console (slice_index_or (filter (is_own_setting console) assigned) k d)
    (filter_passes (is_own_setting console) assigned k d in_range)

pub returns : goal.returns
returns c words line is = (
  named (has_console words) (other_words words) line.source is.source,
  subst AreOfDownloads (sym is.settings) (options (has_console words) is.assigned),
)

-- The words of a load's run have a meaning.
use Rattle.std.proofs.Common.{◌≡◌, true, List, [], ◌∷◌, None, filter, fold, refl, arith}
use Rattle.std.specs.Prelude.{Err, codes, nat_eq}
use Rattle.std.specs.List.{ends_with, flat_map}
use Rattle.std.proofs.lemmas.List.Elements.{All-nil}
use Rattle.clap.specs.Faults.{defaults_fault, fault_of, flags_fault, walk_fault}
use Rattle.clap.specs.Takes.{flags_pass, walk_passes}
use Rattle.clap.specs.Walk.{walked}
use Rattle.command_line.specs.Command.{command_app, option_text, other_words, word_options}
use Rattle.command_line.specs.Lines.{AreSettingsIn, AreSettingsOf, IsLine, has_console, is_own_setting, with_global}
use Rattle.command_line.specs.declared.line.CommandLine.{CommandLine}
use Rattle.command_line.specs.declared.source.Source.TheVariants.{Metainfo}
use Rattle.link_source.specs.Endpoint.{IsUsable}
use Rattle.option_set.specs.Assignments.{IsSettingOf}
use Rattle.option_set.specs.Values.{default_values}
use Rattle.option_set.specs.declared.kinds.Num.TheVariants.{AutoSaveInterval, CheckIntegrity, EnableRpc, MaxConcurrentDownloads, MaxConnectionPerServer, MaxDownloadLimit, MaxOverallDownloadLimit, MaxTries, MinSplitSize, Pause, PieceLength, RpcListenPort, RpcMaxRequestSize, Split}
use Rattle.option_set.specs.declared.kinds.Word.TheVariants as word
use Rattle.option_set.specs.declared.kinds.Opt.{Opt}
use Rattle.option_set.specs.declared.kinds.Opt.TheVariants as opt
use Rattle.option_set.specs.declared.setting.Assigned.{Assigned}
use Rattle.option_set.specs.declared.setting.Assigned.TheVariants.{Number}
use Rattle.url.specs.Input.{split_once, strip_tabs_and_new_lines, trim_c0_control_and_space}
use Rattle.url.specs.Parser.{parse_url, split_scheme}
use Rattle.url.specs.Scheme.{scheme_len}
use Rattle.url.specs.declared.error.ParseError.TheVariants.{RelativeUrlWithoutBase}
use Rattle.load_setup.specs.Words.{run_words}

faultless : fault_of command_app run_words ≡ []
unfolding walked run_words defaults_fault flags_fault walk_fault flags_pass walk_passes
faultless = refl

split_set : IsSettingOf (codes "split") (codes "8") (Number Split 8)
split_set = record { name_is = refl; value_is = refl; assignable = (omega arith, omega arith) }

size_set : IsSettingOf (codes "min-split-size") (codes "1M") (Number MinSplitSize 1048576)
size_set = record { name_is = refl; value_is = refl; assignable = (omega arith, omega arith) }

connections_set : IsSettingOf (codes "max-connection-per-server") (codes "4") (Number MaxConnectionPerServer 4)
connections_set = record { name_is = refl; value_is = refl; assignable = (omega arith, omega arith) }

no_url : parse_url None (codes "load.torrent") ≡ Err RelativeUrlWithoutBase
unfolding parse_url split_scheme strip_tabs_and_new_lines split_once scheme_len trim_c0_control_and_space
no_url = refl

named : ends_with nat_eq (codes "load.torrent") (codes ".torrent") ≡ true
named = refl

-- ---- the settings

-- what is set of an option
set_of : Opt → List Assigned
set_of (opt.Num MaxConnectionPerServer) = Number MaxConnectionPerServer 4 ∷ []
set_of (opt.Num MinSplitSize) = Number MinSplitSize 1048576 ∷ []
set_of (opt.Num Split) = Number Split 8 ∷ []
set_of option = []

one_set : (option : Opt) → AreSettingsOf option (option_text run_words option) (set_of option)
unfolding walked run_words set_of
one_set (opt.Num AutoSaveInterval) = refl
one_set (opt.Num CheckIntegrity) = refl
one_set (opt.Num EnableRpc) = refl
one_set (opt.Num MaxConcurrentDownloads) = refl
one_set (opt.Num MaxConnectionPerServer) = (Number MaxConnectionPerServer 4, connections_set, refl)
one_set (opt.Num MaxDownloadLimit) = refl
one_set (opt.Num MaxOverallDownloadLimit) = refl
one_set (opt.Num MaxTries) = refl
one_set (opt.Num MinSplitSize) = (Number MinSplitSize 1048576, size_set, refl)
one_set (opt.Num Pause) = refl
one_set (opt.Num PieceLength) = refl
one_set (opt.Num RpcListenPort) = refl
one_set (opt.Num RpcMaxRequestSize) = refl
one_set (opt.Num Split) = (Number Split 8, split_set, refl)
one_set (opt.Word word.Checksum) = refl
one_set (opt.Word word.Dir) = refl
one_set (opt.Word word.Gid) = refl
one_set (opt.Word word.Out) = refl
one_set (opt.Word word.RpcSecret) = refl
one_set (opt.Word word.SelectFile) = refl

all_set : (options : List Opt) → AreSettingsIn (option_text run_words) options (flat_map set_of options)
all_set [] = refl
all_set (option ∷ options) = (set_of option, flat_map set_of options, one_set option, all_set options, refl)

set : List Assigned
set = flat_map set_of word_options

-- ---- the line

pub run_line : CommandLine
run_line = record {
  globals = fold with_global default_values set;
  settings = filter (is_own_setting (has_console run_words)) set;
  source = Metainfo (codes "load.torrent") [];
}

pub others : other_words run_words ≡ codes "load.torrent" ∷ []
unfolding walked run_words
others = refl

pub is_line : IsLine run_words run_line
unfolding run_line set
is_line = record {
  command = faultless;
  assigned = set;
  settings_are = all_set word_options;
  globals = refl;
  settings = refl;
  source = (
    others,
    record { ending = named; no_url = (RelativeUrlWithoutBase, no_url) },
    record { usable = All-nil IsUsable; few = omega arith },
  );
}

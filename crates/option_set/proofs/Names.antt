-- Each option is found by its name, so no two have one.
use Rattle.std.proofs.Common.{◌≡◌, List, ℕ, Option, Some, ap, sym, ◌∙◌, refl, find}
use Rattle.std.specs.Str.{bytes_eq}
use Rattle.option_set.specs.declared.kinds.Num.TheVariants.{AutoSaveInterval, CheckIntegrity, EnableRpc, MaxConcurrentDownloads, MaxConnectionPerServer, MaxDownloadLimit, MaxOverallDownloadLimit, MaxTries, MinSplitSize, Pause, PieceLength, RpcListenPort, RpcMaxRequestSize, Split}
use Rattle.option_set.specs.declared.kinds.Word.TheVariants as word
use Rattle.option_set.specs.declared.kinds.Opt.{Opt}
use Rattle.option_set.specs.declared.kinds.Opt.TheVariants as opt
use Rattle.option_set.specs.Table.{table_row, all_options}

abbrev option_by : List ℕ → Option Opt
option_by name = find (λ option. bytes_eq (table_row option).name name) all_options

by_name : (option : Opt) → option_by (table_row option).name ≡ Some option
by_name (opt.Num AutoSaveInterval) = refl
by_name (opt.Num CheckIntegrity) = refl
by_name (opt.Num EnableRpc) = refl
by_name (opt.Num MaxConcurrentDownloads) = refl
by_name (opt.Num MaxConnectionPerServer) = refl
by_name (opt.Num MaxDownloadLimit) = refl
by_name (opt.Num MaxOverallDownloadLimit) = refl
by_name (opt.Num MaxTries) = refl
by_name (opt.Num MinSplitSize) = refl
by_name (opt.Num Pause) = refl
by_name (opt.Num PieceLength) = refl
by_name (opt.Num RpcListenPort) = refl
by_name (opt.Num RpcMaxRequestSize) = refl
by_name (opt.Num Split) = refl
by_name (opt.Word word.Checksum) = refl
by_name (opt.Word word.Dir) = refl
by_name (opt.Word word.Gid) = refl
by_name (opt.Word word.Out) = refl
by_name (opt.Word word.RpcSecret) = refl
by_name (opt.Word word.SelectFile) = refl

same_some : (a b : Opt) → Some a ≡ Some b → a ≡ b
same_some a b is = cc

pub apart : (a b : Opt) → (table_row a).name ≡ (table_row b).name → a ≡ b
apart a b same = same_some a b (sym (by_name a) ∙ ap option_by same ∙ by_name b)

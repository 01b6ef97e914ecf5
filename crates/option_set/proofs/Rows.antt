-- The rows of the table.
use Rattle.std.proofs.Common.{◌≡◌, ◌≢◌, ℕ, ◌<◌, ◌≤◌, ◌^◌, List, get_or, refl, subst, arith, lit<}
use Rattle.option_set.specs.declared.kinds.Num.{Num}
use Rattle.option_set.specs.declared.kinds.Num.TheVariants.{AutoSaveInterval, CheckIntegrity, EnableRpc, MaxConcurrentDownloads, MaxConnectionPerServer, MaxDownloadLimit, MaxOverallDownloadLimit, MaxTries, MinSplitSize, Pause, PieceLength, RpcListenPort, RpcMaxRequestSize, Split}
use Rattle.option_set.specs.declared.kinds.Word.TheVariants as word
use Rattle.option_set.specs.declared.kinds.Opt.{Opt}
use Rattle.option_set.specs.declared.kinds.Opt.TheVariants as opt
use Rattle.option_set.specs.Table.{table_row, row_of_number, all_options}

-- every limit is below 2^32
pub most_small : (num : Num) → (row_of_number num).most < 2 ^ 32
most_small AutoSaveInterval = lit< tt
most_small CheckIntegrity = lit< tt
most_small EnableRpc = lit< tt
most_small MaxConcurrentDownloads = lit< tt
most_small MaxConnectionPerServer = lit< tt
most_small MaxDownloadLimit = lit< tt
most_small MaxOverallDownloadLimit = lit< tt
most_small MaxTries = lit< tt
most_small MinSplitSize = lit< tt
most_small Pause = lit< tt
most_small PieceLength = lit< tt
most_small RpcListenPort = lit< tt
most_small RpcMaxRequestSize = lit< tt
most_small Split = lit< tt

-- where an option stands in the list of all
record Stands (option : Opt) : Type 0 where
  place : ℕ
  within : place < 20
  there : get_or all_options place (opt.Num AutoSaveInterval) ≡ option

stands : (option : Opt) → Stands option
stands (opt.Num AutoSaveInterval) = record { place = 0; within = lit< tt; there = refl }
stands (opt.Num CheckIntegrity) = record { place = 1; within = lit< tt; there = refl }
stands (opt.Word word.Checksum) = record { place = 2; within = lit< tt; there = refl }
stands (opt.Word word.Dir) = record { place = 3; within = lit< tt; there = refl }
stands (opt.Num EnableRpc) = record { place = 4; within = lit< tt; there = refl }
stands (opt.Word word.Gid) = record { place = 5; within = lit< tt; there = refl }
stands (opt.Num MaxConcurrentDownloads) = record { place = 6; within = lit< tt; there = refl }
stands (opt.Num MaxConnectionPerServer) = record { place = 7; within = lit< tt; there = refl }
stands (opt.Num MaxDownloadLimit) = record { place = 8; within = lit< tt; there = refl }
stands (opt.Num MaxOverallDownloadLimit) = record { place = 9; within = lit< tt; there = refl }
stands (opt.Num MaxTries) = record { place = 10; within = lit< tt; there = refl }
stands (opt.Num MinSplitSize) = record { place = 11; within = lit< tt; there = refl }
stands (opt.Word word.Out) = record { place = 12; within = lit< tt; there = refl }
stands (opt.Num Pause) = record { place = 13; within = lit< tt; there = refl }
stands (opt.Num PieceLength) = record { place = 14; within = lit< tt; there = refl }
stands (opt.Num RpcListenPort) = record { place = 15; within = lit< tt; there = refl }
stands (opt.Num RpcMaxRequestSize) = record { place = 16; within = lit< tt; there = refl }
stands (opt.Word word.RpcSecret) = record { place = 17; within = lit< tt; there = refl }
stands (opt.Word word.SelectFile) = record { place = 18; within = lit< tt; there = refl }
stands (opt.Num Split) = record { place = 19; within = lit< tt; there = refl }

-- where none of the options has a name, no option has it
pub unnamed : (name : List ℕ) (tried : ℕ) → 20 ≤ tried
    → ((k : ℕ) → k < tried → (table_row (get_or all_options k (opt.Num AutoSaveInterval))).name ≢ name)
    → (option : Opt) → (table_row option).name ≢ name
unnamed name tried all none option =
    let at = stands option in
    let other : (table_row (get_or all_options at.place (opt.Num AutoSaveInterval))).name ≢ name =
    none at.place (omega (arith, at.within)) in
    subst (λ (o : Opt). (table_row o).name ≢ name) at.there other

use Rattle.std.proofs.Common.{◌≢◌, ℕ, ◌<◌, get_or}
use Rattle.option_set.specs.Table.{table_row}
use Rattle.option_set.specs.declared.kinds.Num.TheVariants.{AutoSaveInterval}
use Rattle.option_set.specs.declared.kinds.Opt.TheVariants as opt
use Rattle.option_set.proofs.kinds.Opt.named.Given as goal

-- no option that was tried has the name
abbrev pub invariant-loop-option : goal.invariant-loop-option
invariant-loop-option l =
    (k : ℕ) → k < l.option-index → (table_row (get_or l.option-items k (opt.Num AutoSaveInterval))).name ≢ l.name

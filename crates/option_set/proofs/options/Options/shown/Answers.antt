use Rattle.std.proofs.Common.{arith}
use Rattle.option_set.specs.declared.kinds.Num.TheVariants.{AutoSaveInterval}
use Rattle.option_set.specs.declared.kinds.Opt.TheVariants as opt
use Rattle.option_set.specs.Table.{all_options}
use Rattle.option_set.specs.Values.{shown_pairs}
use Rattle.option_set.proofs.Defaults.{one_more}
use Rattle.option_set.proofs.options.Options.shown.Goals as goal

pub loop-option-preserved : goal.loop-option-preserved
loop-option-preserved c =
    let more = one_more (shown_pairs c.args.self.now c.args.scope) all_options c.loop-option.option-index (opt.Num AutoSaveInterval) (omega arith) in
    let pushed = c.in_ok-push_shown.ensures in
    cc

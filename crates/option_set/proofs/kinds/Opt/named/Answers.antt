use Rattle.std.proofs.Common.{arith}
use Rattle.option_set.proofs.Rows.{unnamed}
use Rattle.option_set.proofs.kinds.Opt.named.Goals as goal

pub returns : goal.returns
returns c = unnamed c.args.name.now c.loop-option.option-index (omega arith) c.loop-option.invariant

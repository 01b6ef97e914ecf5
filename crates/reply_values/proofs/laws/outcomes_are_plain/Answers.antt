use Rattle.std.proofs.Common.{refl}
use Rattle.reply_values.proofs.PlainOutcomes.{reply_plain}
use Rattle.reply_values.proofs.laws.outcomes_are_plain.Goals as goal

pub returns : goal.returns
returns c = record { replies = reply_plain; methods = refl }

use Rattle.control_file.proofs.Spare.{none_spare, some_spare}
use Rattle.control_file.proofs.Steps.{row_is, row_wrong}
use Rattle.control_file.proofs.reading.read_row.Goals as goal

pub returns-in-Ok-clause-exact : goal.returns-in-Ok-clause-exact
returns-in-Ok-clause-exact c =
    row_is c.args.order c.args.bits _ _ _ _ _ _ c.in_ok-len.ensures.exact c.div_ceil.ensures c.in_ok-bytes.ensures
    c.in-Ok.row c.in-Ok.ensures.row
    (none_spare _ (λ some. let spare = c.in-Ok.ensures.spare.1 (c.in-Ok.ensures.fits, some) in absurd cc))

pub returns-in-Err-Spare-clause-exact : goal.returns-in-Err-Spare-clause-exact
returns-in-Err-Spare-clause-exact c =
    row_wrong c.args.order c.args.bits _ _ _ _ _ _ c.in_ok-len.ensures.exact c.div_ceil.ensures c.in_ok-bytes.ensures
    (some_spare _ (c.in-Err-Spare.ensures.spare.0 cc).1)

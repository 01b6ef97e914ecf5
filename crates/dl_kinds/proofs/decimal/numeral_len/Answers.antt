use Rattle.dl_kinds.proofs.Digits.{digits_more}
use Rattle.dl_kinds.proofs.decimal.numeral_len.Goals as goal

pub loop-count-preserved : goal.loop-count-preserved
loop-count-preserved c =
    digits_more c.args.bytes.now c.loop-count.count c.loop-count-test.true c.loop-count.invariant c.if-not-is_ascii_digit.ensures.bound

use Rattle.std.proofs.Common.{arith}
use Rattle.load_setup.proofs.Numbers.{asked_alone, one_of_one}
use Rattle.load_setup.proofs.words.load_of.Goals as goal

pub returns-in-len1 : goal.returns-in-len1
returns-in-len1 c =
    let alone = one_of_one c.args.words.now c.word-item.result (omega arith) (omega arith) c.word-item.is in
    rw alone (asked_alone _ c.asked_number.result (rw c.as_bytes.ensures.value at c.asked_number.ensures))

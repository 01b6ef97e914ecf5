use Rattle.std.proofs.Common.{◌+◌, ◌<◌, arith, get_or}
use Rattle.bit_rows.proofs.Ones.{ones_more, ones_so_far}
use Rattle.bit_rows.proofs.bits.count_set.Goals as goal

pub overflow_add-ones : goal.overflow_add-ones
overflow_add-ones c =
    let bytes = c.args.bytes.now in
    let i = c.loop-byte.byte-index in
    let below : get_or bytes i 0 < 256 = omega (arith, c.type_inv.bytes i) in
    omega (arith, ones_more bytes i c.loop-byte-test.true below, ones_so_far bytes (i + 1), c.requires, c.loop-byte.invariant)

pub loop-byte-preserved : goal.loop-byte-preserved
loop-byte-preserved c =
    let bytes = c.args.bytes.now in
    let i = c.loop-byte.byte-index in
    let below : get_or bytes i 0 < 256 = omega (arith, c.type_inv.bytes i) in
    omega (arith, ones_more bytes i c.loop-byte-test.true below, c.loop-byte.invariant)

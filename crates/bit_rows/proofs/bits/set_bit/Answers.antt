use Rattle.bit_rows.proofs.Places.{write_true}
use Rattle.bit_rows.proofs.bits.set_bit.Goals as goal

pub returns : goal.returns
returns c = write_true c.args.bytes.now c.args.at c.requires

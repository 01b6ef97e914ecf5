use Rattle.bit_rows.proofs.Places.{write_false}
use Rattle.bit_rows.proofs.bits.clear_bit.Goals as goal

pub returns : goal.returns
returns c = write_false c.args.bytes.now c.args.at c.requires

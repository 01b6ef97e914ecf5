use Rattle.bit_rows.proofs.Places.{read_bit}
use Rattle.bit_rows.proofs.bits.bit.Goals as goal

pub returns : goal.returns
returns c = read_bit c.args.bytes.now c.args.at c.requires

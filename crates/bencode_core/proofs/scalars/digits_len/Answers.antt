use Rattle.bencode_core.proofs.Numbers.{digits_len_is}
use Rattle.bencode_core.proofs.scalars.digits_len.Goals as goal

pub returns : goal.returns
returns c = digits_len_is c.args.bytes.now _ c.numeral_len.ensures.within c.numeral_len.ensures.digits c.numeral_len.ensures.stops

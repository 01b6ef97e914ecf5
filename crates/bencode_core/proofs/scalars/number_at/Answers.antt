use Rattle.bencode_core.proofs.Numbers.{digits_are, take_digits}
use Rattle.bencode_core.proofs.scalars.number_at.Goals as goal

pub number_of-requires : goal.number_of-requires
number_of-requires c = rw (c.split_at.ensures.front, c.digits_len.ensures, take_digits) (digits_are c.args.bytes.now)

use Rattle.std.proofs.Common.{◌≡◌, take}
use Rattle.bit_rows.proofs.Ones.{ones_of}
use Rattle.bit_rows.specs.Row.{bits_of}
use Rattle.bit_rows.proofs.bits.count_set.Given as goal

abbrev pub invariant-loop-byte : goal.invariant-loop-byte
invariant-loop-byte l = l.ones ≡ ones_of (bits_of (take l.byte-index l.bytes))

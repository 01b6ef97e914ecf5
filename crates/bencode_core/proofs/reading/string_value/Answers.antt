use Rattle.std.proofs.Common.{arith}
use Rattle.bencode_core.proofs.Made.{string_found, string_made}
use Rattle.bencode_core.proofs.reading.string_value.Goals as goal

pub overflow_sub-len : goal.overflow_sub-len
overflow_sub-len c =
    let found = string_found c.args.bytes.now c.in-Some.text.now c.in-Some.rest.now (omega arith) c.in-Some.ensures in
    omega (arith, found.len)

pub invariant_of-result : goal.invariant_of-result
invariant_of-result c =
    let found = string_found c.args.bytes.now c.in-Some.text.now c.in-Some.rest.now (omega arith) c.in-Some.ensures in
    string_made c.args.place c.in_ok-from_slice.field-0 c.args.bytes.now c.in-Some.rest.now c.requires (rw c.in_ok-from_slice.ensures.items found)

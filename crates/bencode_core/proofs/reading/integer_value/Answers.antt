use Rattle.std.proofs.Common.{arith}
use Rattle.std.specs.Int.{w64}
use Rattle.std.proofs.lemmas.Int.{to_z-of_z}
use Rattle.bencode_core.proofs.Made.{integer_found, integer_made}
use Rattle.bencode_core.proofs.reading.integer_value.Goals as goal

pub overflow_sub-len : goal.overflow_sub-len
overflow_sub-len c =
    let found = integer_found c.args.bytes.now c.in-Some-narrowed.number c.in-Some.rest.now (rw c.in-Some-narrowed.is at c.in-Some.ensures) in
    omega (arith, found.len)

pub invariant_of-result : goal.invariant_of-result
invariant_of-result c =
    let found = integer_found c.args.bytes.now c.in-Some-narrowed.number c.in-Some.rest.now (rw c.in-Some-narrowed.is at c.in-Some.ensures) in
    rw (to_z-of_z w64 c.in-Some-narrowed.number (record { sfits = found.fits })) (integer_made c.args.place c.in-Some-narrowed.number c.args.bytes.now c.in-Some.rest.now c.requires found)

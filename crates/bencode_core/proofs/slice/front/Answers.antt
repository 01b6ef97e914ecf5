use Rattle.std.proofs.Common.{ap, arith, length, take}
use Rattle.std.proofs.lemmas.List.{length-take}
use Rattle.bencode_core.specs.Value.{spelling}
use Rattle.bencode_core.specs.Reading.{value_at}
use Rattle.bencode_core.specs.Passing.{value_len}
use Rattle.bencode_core.specs.Slice.{placed_at}
use Rattle.bencode_core.proofs.Sliced.{front_is, front_slice, no_fault, slice_made, slice_value}
use Rattle.bencode_core.proofs.slice.front.Goals as goal

pub unreachable-requires : goal.unreachable-requires
unreachable-requires c =
    let at = c.requires.stands in
    no_fault (value_len (value_at 100 c.args.place c.args.bytes.now)) (length (spelling at.0)) c.in_default.field-0 (front_is at.0 c.args.place at.1 c.args.bytes.now at.2) c.in_default.ensures.fault c.in_default.ensures.exact

pub slice_bounds-result-end : goal.slice_bounds-result-end
slice_bounds-result-end c =
    let at = c.requires.stands in
    let sliced = front_slice at.0 c.args.place c.in-Ok.len at.1 c.args.bytes.now at.2 c.in-Ok.ensures.exact in
    omega (arith, sliced.0, length-take c.in-Ok.len c.args.bytes.now)

pub invariant_of-result : goal.invariant_of-result
invariant_of-result c =
    let at = c.requires.stands in
    let sliced = front_slice at.0 c.args.place c.in-Ok.len at.1 c.args.bytes.now at.2 c.in-Ok.ensures.exact in
    slice_made at.0 c.args.place (take c.in-Ok.len c.args.bytes.now) sliced.1 (omega (arith, c.requires.fits, length-take c.in-Ok.len c.args.bytes.now))

pub returns : goal.returns
returns c = λ v rest at.
    ap (placed_at c.args.place) (slice_value v (take c.in-Ok.len c.args.bytes.now) (front_slice v c.args.place c.in-Ok.len rest c.args.bytes.now at c.in-Ok.ensures.exact).1)

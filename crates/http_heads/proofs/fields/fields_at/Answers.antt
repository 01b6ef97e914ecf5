use Rattle.std.proofs.Common.{arith}
use Rattle.http_heads.proofs.FieldLemmas.{room_left}
use Rattle.http_heads.proofs.fields.fields_at.Goals as goal

pub add_field-requires-clause-names_fit : goal.add_field-requires-clause-names_fit
add_field-requires-clause-names_fit c = (room_left c.args.bytes.now c.args.spans.now c.loop-span.span-index c.loop-span.fields c.loop-span.invariant (omega arith) (omega arith)).0

pub add_field-requires-clause-values_fit : goal.add_field-requires-clause-values_fit
add_field-requires-clause-values_fit c = (room_left c.args.bytes.now c.args.spans.now c.loop-span.span-index c.loop-span.fields c.loop-span.invariant (omega arith) (omega arith)).1

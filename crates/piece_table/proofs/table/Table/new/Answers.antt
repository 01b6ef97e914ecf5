use Rattle.std.proofs.Common.{map, refl, ap, ◌∙◌}
use Rattle.piece_table.specs.Steps.{giver_at_start}
use Rattle.piece_table.proofs.Starting.{starts_so}
use Rattle.piece_table.proofs.table.Table.new.Goals as goal

pub invariant_of-result : goal.invariant_of-result
invariant_of-result c =
    let plan = c.args.plan in
    (starts_so plan.total plan.piece_len plan.pieces c.args.verified c.args.blocks c.in_ok-new.field-0 c.in_ok-new-2.field-0 c.in_ok-held.held.items c.in_ok-givers_of.field-0.items c.landed_bytes.result c.verified_bytes.result
    c.requires plan.pieces_are c.in_ok-held.ensures c.in_ok-new.ensures c.in_ok-new-2.ensures (c.in_ok-givers_of.ensures ∙ ap (map giver_at_start) c.deref.ensures.value) c.landed_bytes.ensures c.verified_bytes.ensures _ refl).1

pub returns : goal.returns
returns c =
    let plan = c.args.plan in
    (starts_so plan.total plan.piece_len plan.pieces c.args.verified c.args.blocks c.in_ok-new.field-0 c.in_ok-new-2.field-0 c.in_ok-held.held.items c.in_ok-givers_of.field-0.items c.landed_bytes.result c.verified_bytes.result
    c.requires plan.pieces_are c.in_ok-held.ensures c.in_ok-new.ensures c.in_ok-new-2.ensures (c.in_ok-givers_of.ensures ∙ ap (map giver_at_start) c.deref.ensures.value) c.landed_bytes.ensures c.verified_bytes.ensures _ refl).0

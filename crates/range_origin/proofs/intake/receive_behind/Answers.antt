use Rattle.std.proofs.Common.{refl, rules, subst, sym}
use Rattle.std.specs.Prelude.{Err}
use Rattle.range_origin.specs.Conversations.{HasTakenIn}
use Rattle.range_origin.proofs.Hearing.{lost, took_in, took_none_in}
use Rattle.range_origin.proofs.intake.receive_behind.Goals as goal

pub returns-in-Ok-extend_from_slice-clause-received : goal.returns-in-Ok-extend_from_slice-clause-received
returns-in-Ok-extend_from_slice-clause-received g c =
    took_in g.A.Doors c.newest_connection_is_one.ensures c.in-Ok.count c.recv.new.into c.args.unread.now.items
    c.extend_from_slice.new.self.items c.args.door.now c.recv.new.self c.in-Ok.ensures.received c.in-Ok.ensures.cause.done
    c.in-Ok-extend_from_slice.ensures.items

pub returns-in-Err-extend_from_slice-clause-received : goal.returns-in-Err-extend_from_slice-clause-received
returns-in-Err-extend_from_slice-clause-received g c =
    lost g.A.Doors c.newest_connection_is_one.ensures c.in-Ok.count c.recv.new.into c.args.unread.now.items
    c.extend_from_slice.new.self.items c.args.door.now c.recv.new.self c.in-Ok.ensures.received c.in-Ok.ensures.cause.done
    (search (c, rules))

pub returns-in-Err-clause-received : goal.returns-in-Err-clause-received
returns-in-Err-clause-received g c =
    subst (λ end. HasTakenIn g.A.Doors c.args.door.now c.args.unread.now.items c.recv.new.self c.args.unread.now.items (Err end))
    (sym c.visit_end_by.ensures)
    (took_none_in g.A.Doors c.args.unread.now.items c.args.unread.now.items c.args.door.now c.recv.new.self c.in-Err.error
    c.in-Err.ensures.failed c.in-Err.ensures.cause refl)

use Rattle.console_http.proofs.Sending.{received_by}
use Rattle.console_http.proofs.intake.receive_behind.Goals as goal

pub returns-in-Ok-clause-received : goal.returns-in-Ok-clause-received
returns-in-Ok-clause-received g c =
    received_by g.A.Doors c.args.door.now c.recv.new.self c.args.unread.now.items c.put_behind.new.unread.items c.recv.new.into c.in-Ok.count
    c.put_behind.result c.in-Ok.count-test.1 c.in-Ok.ensures.bound c.in-Ok.ensures.received c.in-Ok.ensures.cause.done c.put_behind.ensures

use Rattle.console_socket.proofs.Beginning.{starved_at_once}
use Rattle.console_socket.proofs.Whole.{kept_refused, kept_switched}
use Rattle.console_socket.specs.Places.{door_at}
use Rattle.console_socket.proofs.socket.keep_socket.Goals as goal

pub returns-in-Right-clause-kept : goal.returns-in-Right-clause-kept
returns-in-Right-clause-kept g c =
    let right = c.in-Right.ensures in
    kept_switched g.S.Caller.at g.S.Session.asks g.S.Session.steps g.A.Doors c.args.most c.args.bytes.now c.in-Right.accept right.1.0 c.in-Right.used c.switch.result
    (door_at c.args.session.now c.args.desk.now c.args.door.now) (door_at c.switch.new.session c.switch.new.desk c.switch.new.door)
    right.1.1 right.1.2 c.switch.ensures.switched

pub returns-in-Wrong-clause-kept : goal.returns-in-Wrong-clause-kept
returns-in-Wrong-clause-kept g c =
    kept_refused g.S.Caller.at g.S.Session.asks g.S.Session.steps g.A.Doors c.args.most c.args.bytes.now c.refuse.result c.args.session.now c.args.desk.now c.args.door.now c.refuse.new.door
    c.in-Wrong.ensures c.refuse.ensures.refused

pub returns-in-NoMemory-clause-kept : goal.returns-in-NoMemory-clause-kept
returns-in-NoMemory-clause-kept g c =
    starved_at_once g.S.Caller.at g.S.Session.asks g.S.Session.steps g.A.Doors c.args.most c.args.bytes.now c.args.session.now c.args.desk.now c.args.door.now

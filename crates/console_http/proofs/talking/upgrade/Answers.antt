use Rattle.console_http.specs.Readings.{console_at, door_at}
use Rattle.console_http.proofs.Steps.{upgraded}
use Rattle.console_http.proofs.talking.upgrade.Goals as goal

pub returns-clause-ends : goal.returns-clause-ends
returns-clause-ends g c =
    let kept = c.keep_socket-end.ensures.kept in
    upgraded g.S.Caller.at g.S.Session.asks g.S.Session.steps g.A.Doors c.requires.asks.0 kept.0 c.keep_socket-end.result
    (console_at c.args.session.now c.args.desk.now c.args.door.now c.args.intake.now)
    (door_at c.keep_socket-end.new.session c.keep_socket-end.new.desk c.keep_socket-end.new.door) c.requires.asks.1
    (rw (c.most.ensures, c.unread.ensures) at kept.1)

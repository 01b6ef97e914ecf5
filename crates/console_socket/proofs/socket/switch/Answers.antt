use Rattle.std.proofs.Common.{◌∙◌}
use Rattle.console_socket.proofs.Closing.{begins_further, opened_still}
use Rattle.console_socket.proofs.Whole.{switched_all, switched_none, switched_part}
use Rattle.console_socket.specs.Places.{door_at}
use Rattle.console_socket.proofs.socket.switch.Goals as goal

pub returns-in_default-clause-switched : goal.returns-in_default-clause-switched
returns-in_default-clause-switched g c =
    switched_none g.S.Caller.at g.S.Session.asks g.S.Session.steps g.A.Doors c.args.accept.now (door_at c.args.session.now c.args.desk.now c.args.door.now)

pub returns-in-Err-clause-switched : goal.returns-in-Err-clause-switched
returns-in-Err-clause-switched g c =
    rw c.end_by_error.ensures (switched_part g.S.Caller.at g.S.Session.asks g.S.Session.steps g.A.Doors c.args.accept.now _ c.in-Err.error c.args.session.now c.args.desk.now
    c.args.door.now c.send.new.self (c.deref.ensures.value ∙ c.in-Ok.ensures) c.in-Err.ensures.sent c.in-Err.ensures.cause)

pub keep_on-requires : goal.keep_on-requires
keep_on-requires g c e = begins_further _ (g.A.Doors.state c.args.door.now) (g.A.Doors.state c.send.new.self) (c.in_default-send.ensures.sent e) (c.requires.opened e)

pub returns-clause-stays_open : goal.returns-clause-stays_open
returns-clause-stays_open g c e = opened_still g.A.Doors.tells _ _ _ _ _ (g.A.Doors.state c.keep_on.new.door) c.keep_on.ensures.told e

pub returns-clause-switched : goal.returns-clause-switched
returns-clause-switched g c =
    switched_all g.S.Caller.at g.S.Session.asks g.S.Session.steps g.A.Doors c.args.accept.now _ c.keep_on.result c.args.session.now c.args.desk.now c.keep_on.new.session c.keep_on.new.desk
    c.args.door.now c.send.new.self c.keep_on.new.door (c.deref.ensures.value ∙ c.in-Ok.ensures) c.in_default-send.ensures.sent c.in_default-send.ensures.cause.done
    c.requires.opened c.keep_on.ensures

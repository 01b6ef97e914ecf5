use Rattle.console_http.proofs.AllVisits.{keeps_door}
use Rattle.console_http.specs.Readings.{door_at}
use Rattle.console_http.proofs.keeping.keep_door.Goals as goal

pub returns : goal.returns
returns g c =
    let keeps = rw c.in-Ok.ensures at c.keep_with.ensures in (
      keeps.0,
      keeps_door c.newest_connection_is_one.ensures g.S.Caller.at g.S.Session.asks g.S.Session.steps g.A.Doors c.args.most keeps.0 c.keep_with.result
          (door_at c.args.session.now c.args.desk.now c.args.door.now)
          (door_at c.keep_with.new.session c.keep_with.new.desk c.keep_with.new.door) keeps.1 keeps.2,
    )

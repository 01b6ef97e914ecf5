use Rattle.std.proofs.Common.{sym}
use Rattle.console_http.proofs.Visiting.{kept_on}
use Rattle.console_http.specs.Readings.{door_at}
use Rattle.console_http.proofs.keeping.keep_on.Goals as goal

pub returns-clause-kept : goal.returns-clause-kept
returns-clause-kept g c =
    kept_on g.S.Caller.at g.S.Session.asks g.S.Session.steps g.A.Doors c.args.intake.now.most c.let_in-visited.result
    (door_at c.args.session.now c.args.desk.now c.args.door.now)
    (door_at c.let_in-visited.new.session c.let_in-visited.new.desk c.let_in-visited.new.door) c.ask_behind.new.session
    c.ask_behind.new.desk c.args.starved.now c.saturating_add.result c.ask_behind.result c.let_in-visited.ensures.visited
    (rw (sym c.starved_at.ensures) c.saturating_add.ensures) c.ask_behind.ensures

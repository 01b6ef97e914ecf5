use Rattle.console_http.proofs.Steps.{going_on}
use Rattle.console_http.specs.Readings.{console_at, door_at}
use Rattle.console_http.proofs.talking.talk.Goals as goal

pub returns-in-Some-go_on-clause-ends : goal.returns-in-Some-go_on-clause-ends
returns-in-Some-go_on-clause-ends g c =
    c.loop.invariant.goes c.in-Some-go_on.end (door_at c.go_on.new.session c.go_on.new.desk c.go_on.new.door)
    c.in-Some-go_on.ensures.goes_on

pub loop-preserved : goal.loop-preserved
loop-preserved g c =
    going_on g.S.Caller.at g.S.Session.asks g.S.Session.steps g.A.Doors
    (console_at c.args.session.now c.args.desk.now c.args.door.now c.args.intake.now)
    (console_at c.loop.session c.loop.desk c.loop.door c.loop.intake)
    (console_at c.go_on.new.session c.go_on.new.desk c.go_on.new.door c.go_on.new.intake) c.go_on.result
    c.loop.invariant c.in_default.is c.go_on.ensures.stays_open c.go_on.ensures.most c.go_on.ensures.goes_on

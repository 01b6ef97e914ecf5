use Rattle.console_http.proofs.Visiting.{kept_all, kept_more}
use Rattle.console_http.specs.Readings.{door_at}
use Rattle.console_http.proofs.keeping.keep_with.Goals as goal

pub returns-in-Some-keep_on : goal.returns-in-Some-keep_on
returns-in-Some-keep_on g c =
    let kept = c.loop.invariant in
    kept_all g.S.Caller.at g.S.Session.asks g.S.Session.steps g.A.Doors c.args.intake.now.most
    (door_at c.args.session.now c.args.desk.now c.args.door.now) (door_at c.loop.session c.loop.desk c.loop.door)
    (door_at c.keep_on.new.session c.keep_on.new.desk c.keep_on.new.door) c.loop.starved c.keep_on.new.starved
    c.loop.intake.most c.in-Some-keep_on.end kept (rw kept.most_is at c.in-Some-keep_on.ensures.kept)

pub loop-preserved : goal.loop-preserved
loop-preserved g c =
    let kept = c.loop.invariant in
    kept_more g.S.Caller.at g.S.Session.asks g.S.Session.steps g.A.Doors c.args.intake.now.most
    (door_at c.args.session.now c.args.desk.now c.args.door.now) (door_at c.loop.session c.loop.desk c.loop.door)
    (door_at c.keep_on.new.session c.keep_on.new.desk c.keep_on.new.door) c.loop.starved c.keep_on.new.starved
    c.loop.intake.most c.keep_on.new.intake.most c.keep_on.result kept c.in_default.is
    (rw kept.most_is at c.keep_on.ensures.kept) c.keep_on.ensures.most

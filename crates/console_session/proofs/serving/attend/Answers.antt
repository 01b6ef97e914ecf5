use Rattle.console_http.specs.Readings.{door_at}
use Rattle.console_session.proofs.Served.{attended}
use Rattle.console_session.proofs.serving.attend.Goals as goal

pub returns : goal.returns
returns g c =
    attended g.T.Desk.sight g.T.Desk.desk_id g.K.Clock.reads (λ s. s.session) g.A.Doors c.args.most
    c.turns_add_up.ensures.none c.turns_add_up.ensures.more _
    (door_at c.keep_door-kept.new.session c.keep_door-kept.new.desk c.keep_door-kept.new.door)
    c.keep_door-kept.result c.keep_door-kept.ensures.0 c.keep_door-kept.ensures.1

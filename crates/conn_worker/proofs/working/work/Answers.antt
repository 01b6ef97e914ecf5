use Rattle.conn_worker.specs.Hands.{fresh, link_at}
use Rattle.conn_worker.specs.Works.{workplace}
use Rattle.conn_worker.proofs.TakingTurns.{no_room_within, worked_within}
use Rattle.conn_worker.proofs.working.work.Goals as goal

pub returns-in_default-clause-went : goal.returns-in_default-clause-went
returns-in_default-clause-went g c =
    no_room_within g.L.Links g.K.Clock (g.T.Desk.sight c.args.desk.now) (g.T.Desk.sight c.stop.new.desk)
    c.args.link.now c.args.clock.now c.args.worker c.stop.ensures.stops

pub take_turns-came-requires : goal.take_turns-came-requires
take_turns-came-requires g c =
    let from = link_at g.L.Links c.args.link.now in (fresh from, c.in-Ok.ensures.stands g.L.Links.tells from)

pub returns-clause-went : goal.returns-clause-went
returns-clause-went g c =
    let t = c.take_turns-came.new in
    worked_within g.L.Links g.K.Clock (g.T.Desk.sight c.args.desk.now) (g.T.Desk.sight c.stop_unless_finished.new.desk)
    c.in-Ok.state c.args.link.now c.args.clock.now c.args.worker
    (workplace (g.T.Desk.sight t.desk) t.state t.link t.clock) c.take_turns-came.result c.turns_add_up.ensures.more
    c.in-Ok.ensures c.take_turns-came.ensures.went c.stop_unless_finished.ensures.ends

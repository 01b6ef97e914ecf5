use Rattle.std.proofs.Common.{Ok}
use Rattle.conn_worker.specs.Hands.{fresh, link_at}
use Rattle.conn_worker.specs.Works.{workplace}
use Rattle.conn_worker.proofs.TakingTurns.{no_room, worked}
use Rattle.conn_worker.proofs.keeping.keep_work.Goals as goal

pub returns-in_default-clause-went : goal.returns-in_default-clause-went
returns-in_default-clause-went g c =
    no_room g.L.Links g.K.Clock (g.T.Desk.sight c.args.desk.now) (g.T.Desk.sight c.stop.new.desk) c.args.link.now
    c.args.clock.now c.args.worker c.stop.ensures.stops

pub keep_turns-end-requires : goal.keep_turns-end-requires
keep_turns-end-requires g c =
    let from = link_at g.L.Links c.args.link.now in (fresh from, c.in-Ok.ensures.stands g.L.Links.tells from)

pub returns-clause-went : goal.returns-clause-went
returns-clause-went g c =
    let t = c.keep_turns-end.new in
    worked g.L.Links g.K.Clock (g.T.Desk.sight c.args.desk.now) (g.T.Desk.sight c.stop_unless_finished.new.desk)
    c.in-Ok.state c.args.link.now c.args.clock.now c.args.worker
    (workplace (g.T.Desk.sight t.desk) t.state t.link t.clock) (Ok c.keep_turns-end.result) c.turns_add_up.ensures.more
    c.in-Ok.ensures c.keep_turns-end.ensures.went c.stop_unless_finished.ensures.ends

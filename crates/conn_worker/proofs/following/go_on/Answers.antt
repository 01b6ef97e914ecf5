use Rattle.std.proofs.Common.{arith}
use Rattle.conn_worker.specs.Hands.{link_at}
use Rattle.conn_worker.proofs.Followed.{left_comes, spent_comes}
use Rattle.conn_worker.proofs.Steps.{part_is_step}
use Rattle.conn_worker.proofs.following.go_on.Goals as goal

pub returns-then-open_fetch-eq0 : goal.returns-then-open_fetch-eq0
returns-then-open_fetch-eq0 g c f m gain =
    spent_comes g.L.Links.tells c.args.open_fetch f (link_at g.L.Links c.args.link.now) c.if-open_fetch-eq0.true gain m

pub step-requires-clause-may : goal.step-requires-clause-may
step-requires-clause-may g c = c.requires

pub step-requires-clause-some : goal.step-requires-clause-some
step-requires-clause-some g c = (let some = c.if-open_fetch-eq0.false in omega (arith, some))

pub returns : goal.returns
returns g c f m gain =
    let links = g.L.Links in
    let some = c.if-open_fetch-eq0.false in
    left_comes links.tells c.args.open_fetch f c.step.result (link_at links c.args.link.now)
    (link_at links c.step.new.link) some m
    (part_is_step links.tells _ f (link_at links c.step.new.link) c.step.result (c.step.ensures f m))

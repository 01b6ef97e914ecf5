use Rattle.conn_worker.specs.Hands.{link_at}
use Rattle.conn_worker.proofs.Followed.{allowed_may, stepped_comes}
use Rattle.conn_worker.proofs.Steps.{part_is_step}
use Rattle.conn_worker.proofs.following.allow.Goals as goal

pub step-requires-clause-may : goal.step-requires-clause-may
step-requires-clause-may g c =
    let a = c.requires.asks in (
      _,
      allowed_may g.L.Links.tells c.args.open_fetch a.0 c.args.bytes (link_at g.L.Links c.args.link.now) a.1,
    )

pub step-requires-clause-some : goal.step-requires-clause-some
step-requires-clause-some g c = c.requires.some

pub returns : goal.returns
returns g c f a =
    let links = g.L.Links in
    stepped_comes links.tells _ c.step.result (link_at links c.step.new.link)
    (part_is_step links.tells _ _ (link_at links c.step.new.link) c.step.result
    (c.step.ensures _ (allowed_may links.tells c.args.open_fetch f c.args.bytes (link_at links c.args.link.now) a)))

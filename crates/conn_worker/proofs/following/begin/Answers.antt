use Rattle.conn_worker.specs.Hands.{begun_fetch, link_at}
use Rattle.conn_worker.proofs.Followed.{begun_may, stepped_comes}
use Rattle.conn_worker.proofs.Steps.{part_is_step}
use Rattle.conn_worker.proofs.following.begin.Goals as goal

pub begin-requires : goal.begin-requires
begin-requires g c = c.requires.sound.0

pub step-requires-clause-may : goal.step-requires-clause-may
step-requires-clause-may g c =
    let links = g.L.Links in
    let link = link_at links c.args.link.now in
    let b = c.begin.ensures in (
      begun_fetch c.args.grant link,
      begun_may links.tells c.args.grant c.args.room c.begin.result link c.requires.sound.0 c.requires.room b.fetch b.plan
          b.rest b.none_ready b.none_lost b.may b.first,
    )

pub step-requires-clause-some : goal.step-requires-clause-some
step-requires-clause-some g c = c.requires.sound.1

pub returns : goal.returns
returns g c =
    let links = g.L.Links in
    let link = link_at links c.args.link.now in
    let b = c.begin.ensures in
    stepped_comes links.tells (begun_fetch c.args.grant link) c.step.result (link_at links c.step.new.link)
    (part_is_step links.tells _ (begun_fetch c.args.grant link) (link_at links c.step.new.link) c.step.result
    (c.step.ensures (begun_fetch c.args.grant link)
    (begun_may links.tells c.args.grant c.args.room c.begin.result link c.requires.sound.0 c.requires.room b.fetch b.plan
    b.rest b.none_ready b.none_lost b.may b.first)))

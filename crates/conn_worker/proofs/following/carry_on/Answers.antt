use Rattle.std.proofs.Common.{subst}
use Rattle.conn_worker.specs.Hands.{link_at}
use Rattle.conn_worker.specs.Holding.{IsWaiting}
use Rattle.conn_worker.specs.declared.hands.Waiting.{Waiting}
use Rattle.conn_worker.proofs.Followed.{asks_comes, asks_fetch, delivers_comes, delivers_fetch, free_comes, wanting_comes}
use Rattle.conn_worker.proofs.following.carry_on.Goals as goal

pub after_delivery-requires : goal.after_delivery-requires
after_delivery-requires g c =
    let links = g.L.Links in
    let link = link_at links c.args.link.now in
    let w = c.requires.waits in
    delivers_fetch links.tells c.in-Delivers.open_fetch c.in-Delivers.last w.0 link
    (subst (λ (x : Waiting). IsWaiting links.tells x w.0 link) c.in-Delivers.is w.1)

pub after_more-requires-clause-asks : goal.after_more-requires-clause-asks
after_more-requires-clause-asks g c =
    let links = g.L.Links in
    let link = link_at links c.args.link.now in
    let w = c.requires.waits in
    asks_fetch links.tells c.in-Asks.open_fetch w.0 link
    (subst (λ (x : Waiting). IsWaiting links.tells x w.0 link) c.in-Asks.is w.1)

pub after_more-requires-clause-sound : goal.after_more-requires-clause-sound
after_more-requires-clause-sound g c = c.requires.sound

pub returns-in-Free : goal.returns-in-Free
returns-in-Free g c hand w =
    let links = g.L.Links in
    let link = link_at links c.args.link.now in
    free_comes links.tells c.in-Free.room hand c.args.said.now link c.requires.none
    (subst (λ (x : Waiting). IsWaiting links.tells x hand link) c.in-Free.is w)

pub returns-in-WantsWork : goal.returns-in-WantsWork
returns-in-WantsWork g c hand w =
    let links = g.L.Links in
    let link = link_at links c.args.link.now in
    wanting_comes links.tells c.in-WantsWork.room hand c.args.said.now c.hang_up.result link
    (link_at links c.hang_up.new.link) c.requires.none
    (subst (λ (x : Waiting). IsWaiting links.tells x hand link) c.in-WantsWork.is w) c.hang_up.ensures

pub returns-in-Delivers : goal.returns-in-Delivers
returns-in-Delivers g c hand w =
    let links = g.L.Links in
    let link = link_at links c.args.link.now in
    delivers_comes links.tells c.in-Delivers.open_fetch c.in-Delivers.last hand c.args.said.now c.after_delivery.result
    link (link_at links c.after_delivery.new.link) c.requires.none
    (subst (λ (x : Waiting). IsWaiting links.tells x hand link) c.in-Delivers.is w) c.after_delivery.ensures

pub returns-in-Asks : goal.returns-in-Asks
returns-in-Asks g c hand w =
    let links = g.L.Links in
    let link = link_at links c.args.link.now in
    asks_comes links.tells c.in-Asks.open_fetch hand c.args.said.now c.after_more.result link
    (link_at links c.after_more.new.link) c.requires.none
    (subst (λ (x : Waiting). IsWaiting links.tells x hand link) c.in-Asks.is w) c.after_more.ensures

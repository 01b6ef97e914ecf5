use Rattle.std.proofs.Common.{sym, subst}
use Rattle.conn_worker.specs.Hands.{link_at}
use Rattle.conn_worker.specs.Holding.{HasOutcome}
use Rattle.conn_worker.specs.Table.{FollowsKept}
use Rattle.conn_worker.specs.declared.hands.InHand.TheVariants as kept
use Rattle.conn_worker.proofs.Followed.{leaves}
use Rattle.conn_worker.proofs.following.after_kept.Goals as goal

pub returns-then-last : goal.returns-then-last
returns-then-last g c f d =
    let links = g.L.Links in
    let link = link_at links c.args.link.now in
    let room = c.into_room.result in
    subst (λ l. HasOutcome links.tells (FollowsKept links.tells f l link) (kept.Nothing room) link) (sym c.if-last.true)
    (leaves links.tells c.args.open_fetch f room link c.into_room.ensures.may d.is)

pub go_on-requires : goal.go_on-requires
go_on-requires g c = (
  c.requires.0,
  record {
    is = c.requires.1.is;
    some = c.requires.1.more c.if-last.false;
    exact = c.requires.1.exact;
    front = c.requires.1.front;
  },
)

pub returns : goal.returns
returns g c f d =
    let links = g.L.Links in
    let link = link_at links c.args.link.now in
    let link' = link_at links c.go_on.new.link in
    subst (λ l. HasOutcome links.tells (FollowsKept links.tells f l link) c.go_on.result link') (sym c.if-last.false)
    (c.go_on.ensures f (record { is = d.is; some = d.more c.if-last.false; exact = d.exact; front = d.front }) d.gain)

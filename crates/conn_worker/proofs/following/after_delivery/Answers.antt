use Rattle.std.proofs.Common.{sym, subst}
use Rattle.engine_turns.specs.declared.operations.Said.{Said}
use Rattle.conn_worker.specs.Hands.{link_at}
use Rattle.conn_worker.specs.Holding.{HasOutcome}
use Rattle.conn_worker.specs.Table.{FollowsDelivery}
use Rattle.conn_worker.proofs.Followed.{other_delivery}
use Rattle.conn_worker.proofs.following.after_delivery.Goals as goal

pub after_kept-requires : goal.after_kept-requires
after_kept-requires g c = c.requires

pub returns-in-Kept : goal.returns-in-Kept
returns-in-Kept g c f d =
    let links = g.L.Links in
    let link = link_at links c.args.link.now in
    subst (λ (s : Said). HasOutcome links.tells (FollowsDelivery links.tells f c.args.last s link) c.after_kept.result
    (link_at links c.after_kept.new.link)) (sym c.in-Kept.is) (c.after_kept.ensures f d)

pub returns-in_default : goal.returns-in_default
returns-in_default g c f d =
    let links = g.L.Links in
    let link = link_at links c.args.link.now in
    other_delivery links.tells f c.args.last c.args.said.now c.hang_up.result link (link_at links c.hang_up.new.link)
    c.in_default.not-Kept c.hang_up.ensures

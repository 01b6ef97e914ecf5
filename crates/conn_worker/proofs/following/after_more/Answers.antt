use Rattle.std.proofs.Common.{sym, subst}
use Rattle.engine_turns.specs.declared.operations.Said.{Said}
use Rattle.conn_worker.specs.Hands.{link_at}
use Rattle.conn_worker.specs.Holding.{HasOutcome}
use Rattle.conn_worker.specs.Sound.{IsSoundAnswer}
use Rattle.conn_worker.specs.Table.{FollowsMore}
use Rattle.conn_worker.specs.declared.hands.Gain.TheVariants.{Open}
use Rattle.conn_worker.specs.declared.hands.InHand.TheVariants as kept
use Rattle.conn_worker.proofs.Followed.{held_comes, other_more}
use Rattle.conn_worker.proofs.following.after_more.Goals as goal

pub allow-requires-clause-asks : goal.allow-requires-clause-asks
allow-requires-clause-asks g c = c.requires.asks

pub allow-requires-clause-some : goal.allow-requires-clause-some
allow-requires-clause-some g c = (let P : Said → Type 0 = λ s. IsSoundAnswer s in subst P c.in-Allow.is c.requires.sound)

pub returns-in-Allow : goal.returns-in-Allow
returns-in-Allow g c f a =
    let links = g.L.Links in
    let link = link_at links c.args.link.now in
    subst (λ (s : Said). HasOutcome links.tells (FollowsMore links.tells f s link) c.allow.result
    (link_at links c.allow.new.link)) (sym c.in-Allow.is) (c.allow.ensures f a)

pub returns-in-Hold : goal.returns-in-Hold
returns-in-Hold g c f a =
    let links = g.L.Links in
    let link = link_at links c.args.link.now in
    subst (λ (s : Said). HasOutcome links.tells (FollowsMore links.tells f s link)
    (kept.Fetches (record { open_fetch = c.args.open_fetch; gain = Open })) link) (sym c.in-Hold.is)
    (held_comes links.tells c.args.open_fetch f link a)

pub returns-in_default : goal.returns-in_default
returns-in_default g c f a =
    let links = g.L.Links in
    let link = link_at links c.args.link.now in
    other_more links.tells f c.args.said.now c.hang_up.result link (link_at links c.hang_up.new.link)
    c.in_default.not-Allow c.in_default.not-Hold c.hang_up.ensures

use Rattle.std.proofs.Common.{sym, subst}
use Rattle.engine_turns.specs.declared.operations.Said.{Said}
use Rattle.conn_worker.specs.Hands.{link_at}
use Rattle.conn_worker.specs.Holding.{HasOutcome}
use Rattle.conn_worker.specs.Sound.{IsSoundAnswer}
use Rattle.conn_worker.specs.Table.{FollowsAnswer}
use Rattle.conn_worker.proofs.Followed.{grant_comes, not_grant}
use Rattle.conn_worker.proofs.following.follow.Goals as goal

pub take_grant-requires-clause-room : goal.take_grant-requires-clause-room
take_grant-requires-clause-room g c =
    let w = c.requires.waits in
    c.into_room.ensures g.L.Links.tells w.0 (link_at g.L.Links c.args.link.now) w.1

pub take_grant-requires-clause-sound : goal.take_grant-requires-clause-sound
take_grant-requires-clause-sound g c =
    (let P : Said → Type 0 = λ s. IsSoundAnswer s in subst P c.in-Grant.is c.requires.sound)

pub carry_on-requires : goal.carry_on-requires
carry_on-requires g c = record {
  waits = c.requires.waits;
  sound = c.requires.sound;
  none = not_grant c.args.said c.in_default.not-Grant;
}

pub returns-in-Grant : goal.returns-in-Grant
returns-in-Grant g c hand w =
    let links = g.L.Links in
    let link = link_at links c.args.link.now in
    let link' = link_at links c.take_grant.new.link in
    subst (λ (s : Said). HasOutcome links.tells (FollowsAnswer links.tells hand s link) c.take_grant.result link')
    (sym c.in-Grant.is) (grant_comes links.tells hand c.in-Grant.grant c.take_grant.result link link' c.take_grant.ensures)

pub returns-in_default : goal.returns-in_default
returns-in_default g c hand w = c.carry_on.ensures hand w

use Rattle.std.proofs.Common.{sym, subst}
use Rattle.engine_turns.specs.declared.operations.Grant.{Grant}
use Rattle.conn_worker.specs.Hands.{link_at}
use Rattle.conn_worker.specs.Holding.{HasOutcome}
use Rattle.conn_worker.specs.Sound.{IsSoundGrant}
use Rattle.conn_worker.specs.Table.{FollowsGrant}
use Rattle.conn_worker.specs.declared.hands.InHand.TheVariants as kept
use Rattle.conn_worker.proofs.Followed.{probe_comes, seal_comes}
use Rattle.conn_worker.proofs.following.take_grant.Goals as goal

pub begin-requires-clause-room : goal.begin-requires-clause-room
begin-requires-clause-room g c = c.requires.room

pub begin-requires-clause-sound : goal.begin-requires-clause-sound
begin-requires-clause-sound g c =
    (let P : Grant → Type 0 = λ x. IsSoundGrant x in subst P c.in-Fetch.is c.requires.sound)

pub returns-in-Fetch : goal.returns-in-Fetch
returns-in-Fetch g c =
    let links = g.L.Links in
    let link = link_at links c.args.link.now in
    subst (λ (x : Grant). HasOutcome links.tells (FollowsGrant links.tells x link) c.begin.result
    (link_at links c.begin.new.link)) (sym c.in-Fetch.is) c.begin.ensures

pub returns-in-Probe : goal.returns-in-Probe
returns-in-Probe g c =
    let links = g.L.Links in
    let link = link_at links c.args.link.now in
    let link' = link_at links c.ask_length.new.link in
    subst (λ (x : Grant). HasOutcome links.tells (FollowsGrant links.tells x link) (kept.Probes c.ask_length.result) link')
    (sym c.in-Probe.is)
    (probe_comes links.tells c.in-Probe.claim c.in-Probe.gid c.in-Probe.url c.as_str.result.now c.ask_length.result link
    link' c.as_str.ensures c.ask_length.ensures)

pub returns-in-Hash : goal.returns-in-Hash
returns-in-Hash g c =
    let links = g.L.Links in
    let link = link_at links c.args.link.now in
    subst (λ (x : Grant). HasOutcome links.tells (FollowsGrant links.tells x link)
    (kept.Seals (record { gid = c.in-Hash.gid; sealed = c.of.result; room = c.args.room })) link) (sym c.in-Hash.is)
    (seal_comes links.tells c.in-Hash.gid c.in-Hash.piece c.in-Hash.bytes c.of.result c.args.room link c.of.ensures
    c.requires.room)

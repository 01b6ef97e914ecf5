use Rattle.std.proofs.Common.{refl, true}
use Rattle.machine_core.specs.declared.events.Event.TheVariants.{Settled}
use Rattle.stored_run.proofs.Seals.{counted_row, none_some}
use Rattle.engine_turns.specs.Phases.{AndThen, EndingOr, NoEvent, SettlingPhase}
use Rattle.stored_run.specs.Steps.{turn_from}
use Rattle.stored_run.proofs.Findings.{gid_found}
use Rattle.stored_run.proofs.Leaving.{leaves_one}
use Rattle.stored_run.proofs.OfOne.{IsOwnEvent, own_all, part_others, settled_in}
use Rattle.stored_run.proofs.KeptBytes.{payloads_one}
use Rattle.stored_run.proofs.Unchecked.{checks_truly}
use Rattle.stored_run.proofs.run.StoredRun.count_whole.Goals as goal

pub settle_and_end-requires-clause-may : goal.settle_and_end-requires-clause-may
settle_and_end-requires-clause-may g c =
    let p = c.requires.piece in (
      Settled c.args.gid c.args.piece true p.giver,
      (p.giver, refl),
      record { own = record { download = p.download; added = p.added; may = p.may }; right_is = λ un. refl },
    )

pub settle_and_end-requires-clause-digest : goal.settle_and_end-requires-clause-digest
settle_and_end-requires-clause-digest g c right told want kept listed =
    none_some want.info_hash (c.requires.unlisted want kept) listed

pub returns-clause-row : goal.returns-clause-row
returns-clause-row g c =
    let d = g.D.Disk in
    let v = c.args.self.now in
    let n = c.settle_and_end.new.self in
    let p = c.requires.piece in
    counted_row v n c.args.gid (d.faults v.disk) (d.faults n.disk) c.settle_and_end.result c.done_unless_starved.result
    c.done_unless_starved.ensures c.args.piece p.download p.added (c.settle_and_end.ensures.did p.download p.added)

pub returns-clause-leaves : goal.returns-clause-leaves
returns-clause-leaves g c told =
    let d = g.D.Disk in
    let v = c.args.self.now in
    let n = c.settle_and_end.new.self in
    let gid = c.args.gid in
    let p = c.requires.piece in
    let does = c.settle_and_end.ensures in
    let all = own_all p.download gid (gid_found v.machine.start v.machine.past gid p.download p.added) in
    leaves_one c.runs_follow.ensures d.tells (d.faults v.disk) v n (d.state v.disk) (d.state n.disk) c.tells_stored.ensures
    told gid c.requires.going (does.disk told) (does.left told) does.on.wants
    (part_others (λ at. AndThen (SettlingPhase at p.download c.args.piece true) (EndingOr at p.download NoEvent)) v n 6
    (d.faults v.disk) (d.faults n.disk) c.settle_and_end.result gid does.on (does.did p.download p.added)
    (settled_in (IsOwnEvent gid) (turn_from v (d.faults v.disk)) p.download all c.args.piece true))

pub returns-clause-payloads : goal.returns-clause-payloads
returns-clause-payloads g c told =
    let d = g.D.Disk in
    let v = c.args.self.now in
    let n = c.settle_and_end.new.self in
    payloads_one c.runs_follow.ensures d.tells (d.faults v.disk) v (d.state v.disk) (d.state n.disk) c.tells_stored.ensures
    c.args.gid c.requires.going (λ want kept. (c.settle_and_end.ensures.disk told want kept).besides)
    (c.settle_and_end.ensures.payload told)

pub returns-clause-checks : goal.returns-clause-checks
returns-clause-checks g c told =
    let n = c.settle_and_end.new.self in
    checks_truly c.args.gid c.args.self.now n (g.D.Disk.state n.disk).seen (c.settle_and_end.ensures.checks told)

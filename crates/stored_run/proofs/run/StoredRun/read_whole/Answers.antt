use Rattle.stored_run.proofs.Seals.{unread_row}
use Rattle.std.proofs.Common.{[], subst, sym}
use Rattle.engine_turns.specs.Phases.{AfterDisk}
use Rattle.machine_core.specs.MachineViews.{MachineView}
use Rattle.stored_run.specs.Steps.{turn_from}
use Rattle.stored_run.specs.Views.{GoesOpened}
use Rattle.stored_run.proofs.Leaving.{leaves_one}
use Rattle.stored_run.proofs.Left.{going_left}
use Rattle.stored_run.proofs.OfOne.{IsOwnEvent, all_own, part_others, read_in}
use Rattle.stored_run.proofs.Parts.{ends_stored_part}
use Rattle.stored_run.proofs.KeptBytes.{payloads_one}
use Rattle.stored_run.proofs.Unchecked.{read_unchecked}
use Rattle.stored_run.proofs.run.StoredRun.read_whole.Goals as goal

pub returns-in_default-clause-row : goal.returns-in_default-clause-row
returns-in_default-clause-row g c =
    let d = g.D.Disk in
    let v = c.args.self.now in
    let n = c.read_into.new.self in
    unread_row v n c.args.gid (d.faults v.disk) (d.faults n.disk) c.read_into.result c.done_unless_starved.result
    c.in_default.not-Went c.done_unless_starved.ensures c.read_into.ensures.did

pub returns-in_default-clause-leaves : goal.returns-in_default-clause-leaves
returns-in_default-clause-leaves g c told =
    let d = g.D.Disk in
    let v = c.args.self.now in
    let a = c.read_into.new.self in
    let gid = c.args.gid in
    leaves_one c.runs_follow.ensures d.tells (d.faults v.disk) v a (d.state v.disk) (d.state a.disk) c.tells_stored.ensures
    told gid c.requires.going (ends_stored_part v a gid (d.state v.disk) (d.state a.disk) (c.read_into.ensures.disk told))
    (c.read_into.ensures.left c.in_default.not-Went told) c.read_into.ensures.on.wants
    (part_others (λ at. AfterDisk at gid []) v a 1 (d.faults v.disk) (d.faults a.disk) c.read_into.result gid
    c.read_into.ensures.on c.read_into.ensures.did
    (read_in (IsOwnEvent gid) (turn_from v (d.faults v.disk)) gid (all_own gid)))

pub returns-in-Went-clause-leaves : goal.returns-in-Went-clause-leaves
returns-in-Went-clause-leaves g c told =
    let d = g.D.Disk in
    let v = c.args.self.now in
    let a = c.read_into.new.self in
    let gid = c.args.gid in
    let same = c.read_into.ensures.same c.in-Went.is in
    let going = subst (λ (m : MachineView). GoesOpened m.start m.past gid) (sym same) c.requires.going in
    leaves_one c.runs_follow.ensures d.tells (d.faults v.disk) v a (d.state v.disk) (d.state a.disk) c.tells_stored.ensures
    told gid c.requires.going (ends_stored_part v a gid (d.state v.disk) (d.state a.disk) (c.read_into.ensures.disk told))
    (going_left c.runs_follow.ensures d.tells (d.faults a.disk) (d.state a.disk) a.machine.start a.machine.past
    a.wants.items a.now gid c.tells_stored-in-Went.ensures told going) c.read_into.ensures.on.wants
    (part_others (λ at. AfterDisk at gid []) v a 1 (d.faults v.disk) (d.faults a.disk) c.read_into.result gid
    c.read_into.ensures.on c.read_into.ensures.did
    (read_in (IsOwnEvent gid) (turn_from v (d.faults v.disk)) gid (all_own gid)))

pub returns-in_default-clause-payloads : goal.returns-in_default-clause-payloads
returns-in_default-clause-payloads g c told =
    let d = g.D.Disk in
    let v = c.args.self.now in
    let a = c.read_into.new.self in
    payloads_one c.runs_follow.ensures d.tells (d.faults v.disk) v (d.state v.disk) (d.state a.disk) c.tells_stored.ensures
    c.args.gid c.requires.going (λ want kept. (c.read_into.ensures.disk told want kept).besides)
    (c.read_into.ensures.payload told)

pub returns-in-Went-clause-payloads : goal.returns-in-Went-clause-payloads
returns-in-Went-clause-payloads g c told =
    let d = g.D.Disk in
    let v = c.args.self.now in
    let a = c.read_into.new.self in
    payloads_one c.runs_follow.ensures d.tells (d.faults v.disk) v (d.state v.disk) (d.state a.disk) c.tells_stored.ensures
    c.args.gid c.requires.going (λ want kept. (c.read_into.ensures.disk told want kept).besides)
    (c.read_into.ensures.payload told)

pub returns-in_default-clause-checks : goal.returns-in_default-clause-checks
returns-in_default-clause-checks g c told =
    let d = g.D.Disk in
    let v = c.args.self.now in
    let a = c.read_into.new.self in
    read_unchecked v a c.args.gid (d.faults v.disk) (d.faults a.disk) c.read_into.result c.read_into.ensures.did
    (d.state a.disk).seen

pub returns-in-Went-clause-checks : goal.returns-in-Went-clause-checks
returns-in-Went-clause-checks g c told =
    let d = g.D.Disk in
    let v = c.args.self.now in
    let a = c.read_into.new.self in
    read_unchecked v a c.args.gid (d.faults v.disk) (d.faults a.disk) c.read_into.result c.read_into.ensures.did
    (d.state a.disk).seen

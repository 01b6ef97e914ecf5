use Rattle.std.proofs.Common.{arith, subst, ◌∙◌}
use Rattle.engine_turns.specs.Phases.{EndingOr, NoEvent, SettlingPhase}
use Rattle.engine_turns.specs.declared.outcome.Outcome.{Outcome}
use Rattle.engine_turns.specs.declared.outcome.Outcome.TheVariants.{Went}
use Rattle.stored_run.specs.Steps.{DoesPart, turn_from}
use Rattle.stored_run.proofs.Doing.{continues_on, continues_wider, part_on, part_stop}
use Rattle.stored_run.proofs.Endings.{going_facts}
use Rattle.stored_run.proofs.Parts.{added_still, ends_part, ends_stored_part, grown_by}
use Rattle.stored_run.proofs.Unchecked.{checks_later, checks_none, unchecked_settling}
use Rattle.stored_run.proofs.run.StoredRun.settle_and_end.Goals as goal

pub returns-in-Went-clause-did : goal.returns-in-Went-clause-did
returns-in-Went-clause-did g c download added =
    let d = g.D.Disk in
    let v = c.args.self.now in
    let a = c.settle.new.self in
    let n = c.end_if_done.new.self in
    let first = subst (λ (o : Outcome). DoesPart (λ at. SettlingPhase at download c.args.piece c.args.right) v
    (d.faults v.disk) a (d.faults a.disk) o) c.in-Went.is (c.settle.ensures.did download added) in
    let there = added_still (λ at. SettlingPhase at download c.args.piece c.args.right) v a 4 (d.faults v.disk)
    (d.faults a.disk) Went c.settle.ensures.on first c.runs_follow.ensures c.args.gid download added in
    part_on (λ at. SettlingPhase at download c.args.piece c.args.right) (λ at. EndingOr at download NoEvent) v a n 4
    (d.faults v.disk) (d.faults a.disk) (d.faults n.disk) c.end_if_done.result c.settle.ensures.on first
    (c.end_if_done.ensures.did download there)

pub returns-in-Went-clause-on : goal.returns-in-Went-clause-on
returns-in-Went-clause-on g c = continues_on 4 2 _ _ _ c.settle.ensures.on c.end_if_done.ensures.on

pub returns-in-Went-clause-disk : goal.returns-in-Went-clause-disk
returns-in-Went-clause-disk g c told =
    let d = g.D.Disk in
    let v = c.args.self.now in
    let a = c.settle.new.self in
    let n = c.end_if_done.new.self in
    let gid = c.args.gid in
    let going = c.settle.ensures.still c.in-Went.is in
    let here = going_facts a.machine.start a.machine.past a.wants.items gid c.tells_stored-in-Went.ensures.wants_are going in
    let before = going_facts v.machine.start v.machine.past v.wants.items gid c.tells_stored.ensures.wants_are
    c.requires.going in
    let first = grown_by (λ at. SettlingPhase at before.has.download c.args.piece c.args.right) v a 4 (d.faults v.disk)
    (d.faults a.disk) c.settle.result c.settle.ensures.on (c.settle.ensures.did before.has.download before.has.added) gid in
    let second = grown_by (λ at. EndingOr at here.has.download NoEvent) a n 2 (d.faults a.disk) (d.faults n.disk)
    c.end_if_done.result c.end_if_done.ensures.on (c.end_if_done.ensures.did here.has.download here.has.added) gid in
    ends_part d.tells (d.faults a.disk) v a n gid 4 (d.state v.disk) (d.state a.disk) (d.state n.disk) c.settle.ensures.on
    first second c.tells_stored-in-Went.ensures going told (c.settle.ensures.disk told) (c.end_if_done.ensures.disk told)

pub returns-in_default : goal.returns-in_default
returns-in_default g c =
    let d = g.D.Disk in
    let v = c.args.self.now in
    let a = c.settle.new.self in
    record {
      did = λ download added. part_stop (λ at. SettlingPhase at download c.args.piece c.args.right)
          (λ at. EndingOr at download NoEvent) v a a (d.faults v.disk) (d.faults a.disk) c.settle.result
          c.in_default.not-Went (c.settle.ensures.did download added);
      on = continues_wider 4 6 v a (omega arith) c.settle.ensures.on;
      disk = λ told. ends_stored_part v a c.args.gid (d.state v.disk) (d.state a.disk) (c.settle.ensures.disk told);
      left = c.settle.ensures.left c.in_default.not-Went;
      payload = c.settle.ensures.payload;
      checks = λ told.
          let before = going_facts v.machine.start v.machine.past v.wants.items c.args.gid
          c.tells_stored.ensures.wants_are
          c.requires.going in
          checks_none (λ at. SettlingPhase at before.has.download c.args.piece c.args.right) v a (d.faults v.disk)
          (d.faults a.disk) c.settle.result (c.settle.ensures.did before.has.download before.has.added)
          (unchecked_settling (turn_from v (d.faults v.disk)) before.has.download c.args.piece c.args.right) c.args.gid
          (d.state a.disk).seen;
    }

pub returns-in-Went-clause-payload : goal.returns-in-Went-clause-payload
returns-in-Went-clause-payload g c told want kept =
    c.end_if_done.ensures.payload told want (c.settle.ensures.on.wants c.args.gid want kept)
    ∙ c.settle.ensures.payload told want kept

pub returns-in-Went-clause-checks : goal.returns-in-Went-clause-checks
returns-in-Went-clause-checks g c told =
    let d = g.D.Disk in
    let v = c.args.self.now in
    let a = c.settle.new.self in
    let n = c.end_if_done.new.self in
    let before = going_facts v.machine.start v.machine.past v.wants.items c.args.gid c.tells_stored.ensures.wants_are
    c.requires.going in
    checks_later (λ at. SettlingPhase at before.has.download c.args.piece c.args.right) v a (d.faults v.disk)
    (d.faults a.disk) c.settle.result (c.settle.ensures.did before.has.download before.has.added)
    (unchecked_settling (turn_from v (d.faults v.disk)) before.has.download c.args.piece c.args.right) c.args.gid n
    (d.state n.disk).seen (c.end_if_done.ensures.checks told)

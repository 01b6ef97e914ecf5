use Rattle.std.proofs.Common.{◌∷◌, [], ◌∙◌, arith, subst, true}
use Rattle.engine_turns.specs.Phases.{AfterDisk, AndThen, CheckedPhase, CompletionPhase, IsWantedVerified}
use Rattle.engine_turns.specs.declared.outcome.Outcome.{Outcome}
use Rattle.machine_core.specs.declared.events.Event.TheVariants.{Checked}
use Rattle.stored_run.specs.Steps.{DoesPart, turn_from}
use Rattle.stored_run.proofs.Completing.{check_done, check_last, disk_past}
use Rattle.stored_run.proofs.Doing.{continues_on, continues_wider, did_wider, part_on, part_stop}
use Rattle.stored_run.proofs.Findings.{gid_found, one_download}
use Rattle.stored_run.proofs.Parts.{added_still, ends_part, ends_stored_part, grown_by}
use Rattle.stored_run.proofs.Endings.{going_facts}
use Rattle.stored_run.proofs.Truly.{truly_kept}
use Rattle.stored_run.proofs.Unchecked.{checks_broken, checks_once, unchecked_end}
use Rattle.stored_run.proofs.run.StoredRun.complete_checked.Goals as goal

pub end_checked-requires-clause-done : goal.end_checked-requires-clause-done
end_checked-requires-clause-done g c download added =
    let d = g.D.Disk in
    let v = c.args.self.now in
    let a = c.check_whole-right.new.self in
    let gid = c.args.gid in
    let right = c.check_whole-right.result.0 in
    let may = c.requires.may in
    let past = disk_past v a gid (Checked gid right ∷ []) (d.faults v.disk) (d.faults a.disk) c.check_whole-right.result.1
    c.check_whole-right.ensures.did c.in-Went.is in
    let there = added_still (λ at. AfterDisk at gid (Checked gid right ∷ [])) v a 1 (d.faults v.disk) (d.faults a.disk)
    c.check_whole-right.result.1 c.check_whole-right.ensures.on c.check_whole-right.ensures.did c.runs_follow.ensures gid may.download
    may.added in
    let same = one_download a.machine.start a.machine.past gid may.download download there added in
    subst (λ x. IsWantedVerified a.machine.start a.machine.past x) same
    (check_done v.machine.start a.machine.start v.machine.past a.machine.past gid may.download right
    c.check_whole-right.ensures.on.start past (gid_found v.machine.start v.machine.past gid may.download may.added) may.done)

pub end_checked-requires-clause-checked : goal.end_checked-requires-clause-checked
end_checked-requires-clause-checked g c =
    let d = g.D.Disk in
    let v = c.args.self.now in
    let a = c.check_whole-right.new.self in
    let gid = c.args.gid in
    let right = c.check_whole-right.result.0 in
    let past = disk_past v a gid (Checked gid right ∷ []) (d.faults v.disk) (d.faults a.disk) c.check_whole-right.result.1
    c.check_whole-right.ensures.did c.in-Went.is in
    check_last v.machine.start a.machine.start v.machine.past a.machine.past gid right c.check_whole-right.ensures.on.start past

pub returns-in-Went-clause-did : goal.returns-in-Went-clause-did
returns-in-Went-clause-did g c =
    let d = g.D.Disk in
    let v = c.args.self.now in
    let a = c.check_whole-right.new.self in
    let n = c.end_checked.new.self in
    let gid = c.args.gid in
    let right = c.check_whole-right.result.0 in
    did_wider (λ from. AndThen (AfterDisk (turn_from v from) gid (Checked gid right ∷ [])) (CheckedPhase (turn_from v from) gid right))
    (λ from. CompletionPhase (turn_from v from) gid true) v.machine.past (d.faults v.disk) n.machine.past (d.faults n.disk)
    c.end_checked.result (λ from events is. (right, is))
    (part_on (λ at. AfterDisk at gid (Checked gid right ∷ [])) (λ at. CheckedPhase at gid right) v a n 1 (d.faults v.disk)
    (d.faults a.disk) (d.faults n.disk) c.end_checked.result c.check_whole-right.ensures.on
    (subst (λ (o : Outcome). DoesPart (λ at. AfterDisk at gid (Checked gid right ∷ [])) v (d.faults v.disk) a
    (d.faults a.disk) o) c.in-Went.is c.check_whole-right.ensures.did) c.end_checked.ensures.did)

pub returns-in-Went-clause-on : goal.returns-in-Went-clause-on
returns-in-Went-clause-on g c = continues_on 1 1 _ _ _ c.check_whole-right.ensures.on c.end_checked.ensures.on

pub returns-in-Went-clause-disk : goal.returns-in-Went-clause-disk
returns-in-Went-clause-disk g c told =
    let d = g.D.Disk in
    let v = c.args.self.now in
    let a = c.check_whole-right.new.self in
    let n = c.end_checked.new.self in
    let gid = c.args.gid in
    let right = c.check_whole-right.result.0 in
    let first = grown_by (λ at. AfterDisk at gid (Checked gid right ∷ [])) v a 1 (d.faults v.disk)
    (d.faults a.disk) c.check_whole-right.result.1 c.check_whole-right.ensures.on c.check_whole-right.ensures.did gid in
    let second = grown_by (λ at. CheckedPhase at gid right) a n 1 (d.faults a.disk) (d.faults n.disk)
    c.end_checked.result c.end_checked.ensures.on c.end_checked.ensures.did gid in
    ends_part d.tells (d.faults a.disk) v a n gid 1 (d.state v.disk) (d.state a.disk) (d.state n.disk)
    c.check_whole-right.ensures.on first second c.tells_stored-in-Went.ensures (c.check_whole-right.ensures.still c.in-Went.is) told
    (c.check_whole-right.ensures.disk told) (c.end_checked.ensures.disk told)

pub returns-in-Went-clause-payload : goal.returns-in-Went-clause-payload
returns-in-Went-clause-payload g c told want kept =
    c.end_checked.ensures.payload told want (c.check_whole-right.ensures.on.wants c.args.gid want kept)
    ∙ c.check_whole-right.ensures.payload told want kept

pub returns-in-Went-clause-checks : goal.returns-in-Went-clause-checks
returns-in-Went-clause-checks g c told =
    let d = g.D.Disk in
    let v = c.args.self.now in
    let a = c.check_whole-right.new.self in
    let n = c.end_checked.new.self in
    let gid = c.args.gid in
    let right = c.check_whole-right.result.0 in
    let may = c.requires.may in
    let first = c.check_whole-right.ensures in
    let second = c.end_checked.ensures in
    let facts = going_facts v.machine.start v.machine.past v.wants.items gid c.tells_stored.ensures.wants_are
    c.requires.going in
    let past = disk_past v a gid (Checked gid right ∷ []) (d.faults v.disk) (d.faults a.disk) c.check_whole-right.result.1
    first.did c.in-Went.is in
    let there = added_still (λ at. AfterDisk at gid (Checked gid right ∷ [])) v a 1 (d.faults v.disk) (d.faults a.disk)
    c.check_whole-right.result.1 first.on first.did c.runs_follow.ensures gid may.download may.added in
    let kept = first.on.wants gid facts.want facts.kept in
    checks_once (λ at. CheckedPhase at gid right) a n (d.faults a.disk) (d.faults n.disk) c.end_checked.result
    second.did (unchecked_end (turn_from a (d.faults a.disk)) gid right) gid v right (d.state n.disk).seen past
    (record {
      download = may.download;
      added = added_still (λ at. CheckedPhase at gid right) a n 1 (d.faults a.disk) (d.faults n.disk)
          c.end_checked.result second.on second.did c.runs_follow.ensures gid may.download there;
      check = c.args.check.now;
      spelled = may.spelled;
      want = facts.want;
      kept = second.on.wants gid facts.want kept;
      truly = truly_kept right c.args.check.now facts.want (d.state v.disk).seen (d.state n.disk).seen
          (second.payload told facts.want kept ∙ first.payload told facts.want facts.kept)
          (first.truly c.in-Went.is told facts.want facts.kept);
    })

pub returns-in_default : goal.returns-in_default
returns-in_default g c =
    let d = g.D.Disk in
    let v = c.args.self.now in
    let a = c.check_whole-right.new.self in
    let gid = c.args.gid in
    let right = c.check_whole-right.result.0 in
    record {
      did = did_wider (λ from. AndThen (AfterDisk (turn_from v from) gid (Checked gid right ∷ []))
          (CheckedPhase (turn_from v from) gid right))
          (λ from. CompletionPhase (turn_from v from) gid true) v.machine.past (d.faults v.disk) a.machine.past
          (d.faults a.disk) c.check_whole-right.result.1 (λ from events is. (right, is))
          (part_stop (λ at. AfterDisk at gid (Checked gid right ∷ [])) (λ at. CheckedPhase at gid right) v a a
          (d.faults v.disk) (d.faults a.disk) c.check_whole-right.result.1 c.in_default.not-Went c.check_whole-right.ensures.did);
      on = continues_wider 1 2 v a (omega arith) c.check_whole-right.ensures.on;
      disk = λ told. ends_stored_part v a gid (d.state v.disk) (d.state a.disk) (c.check_whole-right.ensures.disk told);
      payload = c.check_whole-right.ensures.payload;
      left = c.check_whole-right.ensures.left c.in_default.not-Went;
      checks = λ told. checks_broken v a gid (d.faults v.disk) (d.faults a.disk) c.check_whole-right.result.1
          (Checked gid right ∷ []) c.check_whole-right.ensures.did c.in_default.not-Went (d.state a.disk).seen;
    }

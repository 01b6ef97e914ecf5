use Rattle.std.proofs.Common.{◌∙◌, arith, subst, sym}
use Rattle.dl_kinds.specs.declared.gid.Gid.{Gid}
use Rattle.engine_turns.specs.Phases.{EndingOr, NoEvent, OpeningPhase}
use Rattle.engine_turns.specs.declared.outcome.Outcome.{Outcome}
use Rattle.engine_turns.specs.declared.outcome.Outcome.TheVariants.{Went}
use Rattle.stored_run.specs.Steps.{DoesPart, turn_from}
use Rattle.stored_run.specs.Views.{own_in}
use Rattle.stored_run.proofs.Doing.{continues_on, continues_wider, part_on, part_stop}
use Rattle.stored_run.proofs.Findings.{gid_found}
use Rattle.stored_run.proofs.OfOne.{IsOwnEvent, all_own, ending_in, none_in, own_all, part_others}
use Rattle.stored_run.proofs.OpenDisk.{opening_in, opens_not, opens_then, other_opened, stopped_by}
use Rattle.stored_run.proofs.Parts.{added_still, grown_by}
use Rattle.stored_run.proofs.RefusedEnds.{ends_opened}
use Rattle.stored_run.proofs.Unchecked.{checks_later, checks_none, unchecked_opening}
use Rattle.stored_run.proofs.run.StoredRun.open_one.Goals as goal

pub end_if_done-requires-clause-going : goal.end_if_done-requires-clause-going
end_if_done-requires-clause-going g c = (c.resume_one.ensures.opened c.in-Went.is).2.going

pub returns-in-Went-clause-did : goal.returns-in-Went-clause-did
returns-in-Went-clause-did g c download added =
    let d = g.D.Disk in
    let v = c.args.self.now in
    let a = c.resume_one.new.self in
    let n = c.end_if_done.new.self in
    let first = subst (λ (o : Outcome). DoesPart (λ at. OpeningPhase at c.args.gid) v (d.faults v.disk) a (d.faults a.disk) o)
    c.in-Went.is c.resume_one.ensures.did in
    let there = added_still (λ at. OpeningPhase at c.args.gid) v a 1 (d.faults v.disk) (d.faults a.disk) Went
    c.resume_one.ensures.on first c.runs_follow.ensures c.args.gid download added in
    let gid_is = gid_found v.machine.start v.machine.past c.args.gid download added in
    part_on (λ at. OpeningPhase at download.gid) (λ at. EndingOr at download NoEvent) v a n 1 (d.faults v.disk)
    (d.faults a.disk) (d.faults n.disk) c.end_if_done.result c.resume_one.ensures.on
    (subst (λ (h : Gid). DoesPart (λ at. OpeningPhase at h) v (d.faults v.disk) a (d.faults a.disk) Went) (sym gid_is) first)
    (c.end_if_done.ensures.did download there)

pub returns-in-Went-clause-on : goal.returns-in-Went-clause-on
returns-in-Went-clause-on g c = continues_on 1 2 _ _ _ c.resume_one.ensures.on c.end_if_done.ensures.on

pub returns-in-Went-clause-leaves : goal.returns-in-Went-clause-leaves
returns-in-Went-clause-leaves g c told said answers =
    let d = g.D.Disk in
    let v = c.args.self.now in
    let a = c.resume_one.new.self in
    let n = c.end_if_done.new.self in
    let gid = c.args.gid in
    let is = c.requires.to_open in
    let download = is.has.download in
    let gid_is = gid_found v.machine.start v.machine.past gid download is.has.added in
    let there = added_still (λ at. OpeningPhase at gid) v a 1 (d.faults v.disk) (d.faults a.disk) c.resume_one.result
    c.resume_one.ensures.on c.resume_one.ensures.did c.runs_follow.ensures gid download is.has.added in
    let grown = grown_by (λ at. EndingOr at download NoEvent) a n 2 (d.faults a.disk) (d.faults n.disk)
    c.end_if_done.result c.end_if_done.ensures.on (c.end_if_done.ensures.did download there) gid in
    let first = part_others (λ at. OpeningPhase at gid) v a 1 (d.faults v.disk) (d.faults a.disk) c.resume_one.result gid
    c.resume_one.ensures.on c.resume_one.ensures.did (opening_in (turn_from v (d.faults v.disk)) gid (all_own gid)) in
    let second = part_others (λ at. EndingOr at download NoEvent) a n 2 (d.faults a.disk) (d.faults n.disk)
    c.end_if_done.result gid c.end_if_done.ensures.on (c.end_if_done.ensures.did download there)
    (ending_in (IsOwnEvent gid) (turn_from a (d.faults a.disk)) download (own_all download gid gid_is) NoEvent
    (none_in (IsOwnEvent gid))) in
    opens_then c.runs_follow.ensures d.tells (d.faults v.disk) v (d.state v.disk) c.tells_stored.ensures told gid c.args.want is
    a n (d.state a.disk) (d.state n.disk)
    (λ h goes.
    let apart = other_opened gid h (own_in v) is.before.opening.unopened goes.opened in second h apart ∙ first h apart)
    (d.faults a.disk) c.tells_stored-in-Went.ensures (c.resume_one.ensures.disk told)
    (c.resume_one.ensures.fits c.in-Went.is told) (c.resume_one.ensures.opened c.in-Went.is) 2 c.end_if_done.ensures.on grown (c.end_if_done.ensures.disk told)
    (c.end_if_done.ensures.payload told) (c.end_if_done.ensures.left told) said

pub returns-in-Went-clause-ends : goal.returns-in-Went-clause-ends
returns-in-Went-clause-ends g c told h how came =
    let d = g.D.Disk in
    let v = c.args.self.now in
    let a = c.resume_one.new.self in
    let n = c.end_if_done.new.self in
    let gid = c.args.gid in
    let has = c.requires.to_open.has in
    let there = added_still (λ at. OpeningPhase at gid) v a 1 (d.faults v.disk) (d.faults a.disk) c.resume_one.result
    c.resume_one.ensures.on c.resume_one.ensures.did c.runs_follow.ensures gid has.download has.added in
    let second = c.end_if_done.ensures.did has.download there in
    ends_opened v a n (d.faults v.disk) (d.faults a.disk) (d.faults n.disk) c.resume_one.result c.end_if_done.result gid
    has.download (d.state v.disk).seen c.resume_one.ensures.did second (c.resume_one.ensures.ends told) h how came

pub returns-in-Went-clause-checks : goal.returns-in-Went-clause-checks
returns-in-Went-clause-checks g c told =
    let d = g.D.Disk in
    let v = c.args.self.now in
    let a = c.resume_one.new.self in
    let n = c.end_if_done.new.self in
    let gid = c.args.gid in
    checks_later (λ at. OpeningPhase at gid) v a (d.faults v.disk) (d.faults a.disk) c.resume_one.result
    c.resume_one.ensures.did (unchecked_opening (turn_from v (d.faults v.disk)) gid) gid n (d.state n.disk).seen
    (c.end_if_done.ensures.checks told)

pub returns-in_default : goal.returns-in_default
returns-in_default g c =
    let d = g.D.Disk in
    let v = c.args.self.now in
    let a = c.resume_one.new.self in
    let gid = c.args.gid in
    let is = c.requires.to_open in
    record {
      did = λ download added. part_stop (λ at. OpeningPhase at download.gid) (λ at. EndingOr at download NoEvent) v a a
          (d.faults v.disk) (d.faults a.disk) c.resume_one.result c.in_default.not-Went
          (subst
          (λ (h : Gid). DoesPart (λ at. OpeningPhase at h) v (d.faults v.disk) a (d.faults a.disk) c.resume_one.result)
          (sym (gid_found v.machine.start v.machine.past gid download added)) c.resume_one.ensures.did);
      on = continues_wider 1 3 v a (omega arith) c.resume_one.ensures.on;
      leaves = λ told said answers.
          opens_not c.runs_follow.ensures d.tells (d.faults v.disk) v (d.state v.disk) c.tells_stored.ensures told gid
          c.args.want is a (d.state a.disk)
          (λ h goes. part_others (λ at. OpeningPhase at gid) v a 1 (d.faults v.disk) (d.faults a.disk)
          c.resume_one.result gid c.resume_one.ensures.on c.resume_one.ensures.did
          (opening_in (turn_from v (d.faults v.disk)) gid (all_own gid)) h
          (other_opened gid h (own_in v) is.before.opening.unopened goes.opened))
          (c.resume_one.ensures.disk told) said (c.resume_one.ensures.shut c.in_default.not-Went)
          (stopped_by c.resume_one.result said c.in_default.not-Went answers
          (λ over. c.resume_one.ensures.reason over told));
      ends = c.resume_one.ensures.ends;
      checks = λ told. checks_none (λ at. OpeningPhase at gid) v a (d.faults v.disk) (d.faults a.disk)
          c.resume_one.result c.resume_one.ensures.did
          (unchecked_opening (turn_from v (d.faults v.disk)) gid) gid (d.state a.disk).seen;
    }

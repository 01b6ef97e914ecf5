use Rattle.std.proofs.Common.{Bool, arith, subst, sym}
use Rattle.std.specs.Prelude.{MatchBool}
use Rattle.dl_kinds.specs.declared.gid.Gid.{Gid}
use Rattle.engine_turns.specs.ClaimRows.{DueSavePhase}
use Rattle.engine_turns.specs.Phases.{CompletionPhase, IfElse, IsWantedVerified}
use Rattle.machine_core.specs.RunLegal.{has_checksum}
use Rattle.stored_run.specs.Settlings.{IsDone}
use Rattle.stored_run.specs.Steps.{DoesPart, turn_from}
use Rattle.stored_run.proofs.Doing.{continues_wider, did_by, did_else, did_if}
use Rattle.stored_run.proofs.Endings.{going_facts}
use Rattle.stored_run.proofs.Findings.{gid_found}
use Rattle.stored_run.proofs.Unchecked.{checks_none, unchecked_due}
use Rattle.stored_run.proofs.run.StoredRun.end_or_save.Goals as goal

pub complete-requires-clause-done : goal.complete-requires-clause-done
complete-requires-clause-done g c download added =
    let v = c.args.self.now in
    subst (λ (b : Bool). MatchBool b (IsDone v download) (¬ IsDone v download)) c.if-is_done.true
    (c.is_done.ensures download added)

pub returns-then-is_done-clause-did : goal.returns-then-is_done-clause-did
returns-then-is_done-clause-did g c download added =
    let d = g.D.Disk in
    let v = c.args.self.now in
    let n = c.complete.new.self in
    let done = subst (λ (b : Bool). MatchBool b (IsDone v download) (¬ IsDone v download)) c.if-is_done.true
    (c.is_done.ensures download added) in
    let gid_is = gid_found v.machine.start v.machine.past c.args.gid download added in
    did_by (λ from past. IfElse (IsWantedVerified v.machine.start past download)
    (CompletionPhase (turn_from v from) download.gid (has_checksum download)) (DueSavePhase (turn_from v from) download))
    v.machine.past (d.faults v.disk) n.machine.past (d.faults n.disk) c.complete.result
    (did_if (IsWantedVerified v.machine.start v.machine.past download)
    (λ from. CompletionPhase (turn_from v from) download.gid (has_checksum download))
    (λ from. DueSavePhase (turn_from v from) download)
    v.machine.past (d.faults v.disk) n.machine.past (d.faults n.disk) c.complete.result done
    (subst (λ (h : Gid). DoesPart (λ at. CompletionPhase at h (has_checksum download)) v (d.faults v.disk) n
    (d.faults n.disk) c.complete.result) (sym gid_is) (c.complete.ensures.did download added)))

pub returns-else-is_done-clause-did : goal.returns-else-is_done-clause-did
returns-else-is_done-clause-did g c download added =
    let d = g.D.Disk in
    let v = c.args.self.now in
    let n = c.save_if_due.new.self in
    let none = subst (λ (b : Bool). MatchBool b (IsDone v download) (¬ IsDone v download)) c.if-is_done.false
    (c.is_done.ensures download added) in
    did_by (λ from past. IfElse (IsWantedVerified v.machine.start past download)
    (CompletionPhase (turn_from v from) download.gid (has_checksum download)) (DueSavePhase (turn_from v from) download))
    v.machine.past (d.faults v.disk) n.machine.past (d.faults n.disk) c.save_if_due.result
    (did_else (IsWantedVerified v.machine.start v.machine.past download)
    (λ from. CompletionPhase (turn_from v from) download.gid (has_checksum download))
    (λ from. DueSavePhase (turn_from v from) download)
    v.machine.past (d.faults v.disk) n.machine.past (d.faults n.disk) c.save_if_due.result none
    (c.save_if_due.ensures.did download added))

pub returns-else-is_done-clause-on : goal.returns-else-is_done-clause-on
returns-else-is_done-clause-on g c =
    continues_wider 1 2 c.args.self.now c.save_if_due.new.self (omega arith) c.save_if_due.ensures.on

pub returns-else-is_done-clause-checks : goal.returns-else-is_done-clause-checks
returns-else-is_done-clause-checks g c told =
    let d = g.D.Disk in
    let v = c.args.self.now in
    let n = c.save_if_due.new.self in
    let before = going_facts v.machine.start v.machine.past v.wants.items c.args.gid c.tells_stored.ensures.wants_are
    c.requires.going in
    checks_none (λ at. DueSavePhase at before.has.download) v n (d.faults v.disk) (d.faults n.disk) c.save_if_due.result
    (c.save_if_due.ensures.did before.has.download before.has.added)
    (unchecked_due (turn_from v (d.faults v.disk)) before.has.download) c.args.gid (d.state n.disk).seen

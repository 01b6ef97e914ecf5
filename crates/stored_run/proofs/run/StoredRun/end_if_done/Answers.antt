use Rattle.std.proofs.Common.{Bool, arith, refl, subst, sym}
use Rattle.std.specs.Prelude.{MatchBool}
use Rattle.dl_kinds.specs.declared.gid.Gid.{Gid}
use Rattle.engine_turns.specs.Phases.{CompletionPhase, IfElse, IsWantedVerified, NoEvent}
use Rattle.machine_core.specs.RunLegal.{has_checksum}
use Rattle.stored_run.specs.Settlings.{IsDone}
use Rattle.stored_run.specs.Steps.{DoesPart, turn_from}
use Rattle.stored_run.specs.Views.{own_in}
use Rattle.stored_run.proofs.Doing.{continues_none, continues_wider, did_by, did_else, did_if, did_nothing, ends_stored, grown_none, stores_none}
use Rattle.stored_run.proofs.Findings.{gid_found}
use Rattle.stored_run.proofs.Left.{going_left}
use Rattle.stored_run.proofs.Unchecked.{checks_still}
use Rattle.stored_run.proofs.run.StoredRun.end_if_done.Goals as goal

pub complete-requires-clause-done : goal.complete-requires-clause-done
complete-requires-clause-done g c download added =
    let v = c.args.self.now in
    subst (λ (b : Bool). MatchBool b (IsDone v download) (¬ IsDone v download)) c.if-is_done.true
    (c.is_done.ensures download added)

pub returns-then-is_done-clause-did : goal.returns-then-is_done-clause-did
returns-then-is_done-clause-did g c download added =
    let d = g.D.Disk in
    let v = c.args.self.now in
    let n = c.complete.new.self in
    let done = subst (λ (b : Bool). MatchBool b (IsDone v download) (¬ IsDone v download)) c.if-is_done.true
    (c.is_done.ensures download added) in
    let gid_is = gid_found v.machine.start v.machine.past c.args.gid download added in
    did_by (λ from past. IfElse (IsWantedVerified v.machine.start past download)
    (CompletionPhase (turn_from v from) download.gid (has_checksum download)) NoEvent)
    v.machine.past (d.faults v.disk) n.machine.past (d.faults n.disk) c.complete.result
    (did_if (IsWantedVerified v.machine.start v.machine.past download)
    (λ from. CompletionPhase (turn_from v from) download.gid (has_checksum download)) (λ from. NoEvent)
    v.machine.past (d.faults v.disk) n.machine.past (d.faults n.disk) c.complete.result done
    (subst (λ (h : Gid). DoesPart (λ at. CompletionPhase at h (has_checksum download)) v (d.faults v.disk) n
    (d.faults n.disk) c.complete.result) (sym gid_is) (c.complete.ensures.did download added)))

pub returns-else-is_done-clause-did : goal.returns-else-is_done-clause-did
returns-else-is_done-clause-did g c download added =
    let d = g.D.Disk in
    let v = c.args.self.now in
    let f = d.faults v.disk in
    let none = subst (λ (b : Bool). MatchBool b (IsDone v download) (¬ IsDone v download)) c.if-is_done.false
    (c.is_done.ensures download added) in
    did_by (λ from past. IfElse (IsWantedVerified v.machine.start past download)
    (CompletionPhase (turn_from v from) download.gid (has_checksum download)) NoEvent)
    v.machine.past f v.machine.past f _
    (did_else (IsWantedVerified v.machine.start v.machine.past download)
    (λ from. CompletionPhase (turn_from v from) download.gid (has_checksum download)) (λ from. NoEvent)
    v.machine.past f v.machine.past f _ none (did_nothing v.machine.past f f (omega arith)))

pub returns-else-is_done-clause-on : goal.returns-else-is_done-clause-on
returns-else-is_done-clause-on g c =
    continues_wider 0 2 c.args.self.now c.args.self.now (omega arith) (continues_none c.args.self.now)

pub returns-else-is_done-clause-disk : goal.returns-else-is_done-clause-disk
returns-else-is_done-clause-disk g c told want is =
    let v = c.args.self.now in
    let own = own_in v c.args.gid in
    let disk = g.D.Disk.state v.disk in
    ends_stored want own own disk disk
    (stores_none c.runs_follow.ensures.give want own own disk (c.tells_stored.ensures.wants_are.sound c.args.gid want is)
    (grown_none own))

pub returns-else-is_done-clause-left : goal.returns-else-is_done-clause-left
returns-else-is_done-clause-left g c told =
    let d = g.D.Disk in
    let v = c.args.self.now in
    going_left c.runs_follow.ensures d.tells (d.faults v.disk) (d.state v.disk) v.machine.start v.machine.past v.wants.items
    v.now c.args.gid c.tells_stored.ensures told c.requires.going

pub returns-else-is_done-clause-payload : goal.returns-else-is_done-clause-payload
returns-else-is_done-clause-payload g c told want kept = refl

pub returns-else-is_done-clause-checks : goal.returns-else-is_done-clause-checks
returns-else-is_done-clause-checks g c told =
    let v = c.args.self.now in checks_still c.args.gid v v (g.D.Disk.state v.disk).seen refl

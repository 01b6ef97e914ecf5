use Rattle.std.proofs.Common.{Bool, arith, inl, inr, subst, sym}
use Rattle.std.specs.Prelude.{MatchBool}
use Rattle.dl_kinds.specs.declared.gid.Gid.{Gid}
use Rattle.engine_turns.specs.ClaimRows.{DueSavePhase, IsSaveDue}
use Rattle.engine_turns.specs.Phases.{NoEvent, SavePhase}
use Rattle.engine_turns.specs.declared.outcome.Outcome.TheVariants.{Went}
use Rattle.stored_run.specs.Steps.{turn_from}
use Rattle.stored_run.specs.Views.{own_in}
use Rattle.stored_run.proofs.Doing.{continues_none, continues_wider, did_nothing, did_wider, ends_stored, grown_none, stores_none}
use Rattle.stored_run.proofs.Endings.{may_save, stored_apart}
use Rattle.stored_run.proofs.Findings.{gid_found}
use Rattle.stored_run.proofs.Parts.{ends_stored_part}
use Rattle.stored_run.proofs.Left.{going_left}
use Rattle.stored_run.proofs.run.StoredRun.save_if_due.Goals as goal

pub save_one-requires-clause-may : goal.save_one-requires-clause-may
save_one-requires-clause-may g c =
    let v = c.args.self.now in
    may_save c.runs_follow.ensures v.machine.start v.machine.past c.args.gid c.tells_stored.ensures.legal c.requires.going

pub save_one-requires-clause-stored : goal.save_one-requires-clause-stored
save_one-requires-clause-stored g c told =
    let d = g.D.Disk in
    let v = c.args.self.now in
    stored_apart d.tells (d.faults v.disk) (d.state v.disk) v c.args.gid c.tells_stored.ensures c.requires.going told

pub returns-then-is_save_due-clause-did : goal.returns-then-is_save_due-clause-did
returns-then-is_save_due-clause-did g c download added =
    let d = g.D.Disk in
    let v = c.args.self.now in
    let n = c.save_one.new.self in
    let o = c.save_one.result in
    let gid_is = gid_found v.machine.start v.machine.past c.args.gid download added in
    did_wider (λ from. SavePhase (turn_from v from) c.args.gid) (λ from. DueSavePhase (turn_from v from) download)
    v.machine.past (d.faults v.disk) n.machine.past (d.faults n.disk) o
    (λ from events came. inl (
      subst (λ (b : Bool). MatchBool b (IsSaveDue (turn_from v from) v.machine.past download)
          (¬ IsSaveDue (turn_from v from) v.machine.past download)) c.if-is_save_due.true (c.is_save_due.ensures download added from),
      subst (λ (h : Gid). SavePhase (turn_from v from) h v.machine.past events o) (sym gid_is) came,
    ))
    c.save_one.ensures.did

pub returns-else-is_save_due-clause-did : goal.returns-else-is_save_due-clause-did
returns-else-is_save_due-clause-did g c download added =
    let d = g.D.Disk in
    let v = c.args.self.now in
    let f = d.faults v.disk in
    did_wider (λ from. NoEvent) (λ from. DueSavePhase (turn_from v from) download) v.machine.past f v.machine.past f Went
    (λ from events came. inr (
      subst (λ (b : Bool). MatchBool b (IsSaveDue (turn_from v from) v.machine.past download)
          (¬ IsSaveDue (turn_from v from) v.machine.past download)) c.if-is_save_due.false (c.is_save_due.ensures download added from),
      came,
    ))
    (did_nothing v.machine.past f f (omega arith))

pub returns-then-is_save_due-clause-disk : goal.returns-then-is_save_due-clause-disk
returns-then-is_save_due-clause-disk g c told =
    let d = g.D.Disk in
    let v = c.args.self.now in
    let n = c.save_one.new.self in
    ends_stored_part v n c.args.gid (d.state v.disk) (d.state n.disk) (c.save_one.ensures.disk told)

pub returns-else-is_save_due-clause-on : goal.returns-else-is_save_due-clause-on
returns-else-is_save_due-clause-on g c =
    continues_wider 0 1 c.args.self.now c.args.self.now (omega arith) (continues_none c.args.self.now)

pub returns-else-is_save_due-clause-disk : goal.returns-else-is_save_due-clause-disk
returns-else-is_save_due-clause-disk g c told want is =
    let v = c.args.self.now in
    let own = own_in v c.args.gid in
    let disk = g.D.Disk.state v.disk in
    ends_stored want own own disk disk
    (stores_none c.runs_follow.ensures.give want own own disk (c.tells_stored.ensures.wants_are.sound c.args.gid want is)
    (grown_none own))

pub returns-else-is_save_due-clause-left : goal.returns-else-is_save_due-clause-left
returns-else-is_save_due-clause-left g c told =
    let d = g.D.Disk in
    let v = c.args.self.now in
    going_left c.runs_follow.ensures d.tells (d.faults v.disk) (d.state v.disk) v.machine.start v.machine.past v.wants.items
    v.now c.args.gid c.tells_stored.ensures told c.requires.going

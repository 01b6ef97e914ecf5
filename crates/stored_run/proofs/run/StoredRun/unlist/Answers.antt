use Rattle.std.proofs.Common.{arith, subst, sym, refl}
use Rattle.engine_turns.specs.Phases.{IfElse, NoEvent, SavePhase}
use Rattle.machine_core.specs.Reads.{IsPieceUnlisted, IsUnlistedIn}
use Rattle.machine_core.specs.RunLegal.{IsLegal}
use Rattle.stored_run.specs.Steps.{turn_from}
use Rattle.stored_run.specs.Stored.{AreWantsKept, IsStoredRun}
use Rattle.stored_run.specs.Views.{own_in}
use Rattle.stored_run.specs.declared.run.StoredView.{StoredView}
use Rattle.stored_run.proofs.Doing.{did_by, did_else, did_if, did_nothing, grown_none, stores_none}
use Rattle.stored_run.proofs.Endings.{may_save, stored_apart}
use Rattle.stored_run.proofs.Findings.{save_goes, save_unlists, save_wrong, saved_past}
use Rattle.stored_run.proofs.run.StoredRun.unlist.Goals as goal

pub save_one-requires-clause-may : goal.save_one-requires-clause-may
save_one-requires-clause-may g c =
    let v = c.args.self.now in
    let legal = subst (λ (w : StoredView _). IsLegal w.machine.start w.machine.past) c.self.view_is c.self.invariant.legal in
    may_save c.runs_follow.ensures v.machine.start v.machine.past c.args.gid legal c.requires.wrong.going

pub save_one-requires-clause-stored : goal.save_one-requires-clause-stored
save_one-requires-clause-stored g c told =
    let d = g.D.Disk in
    let v = c.args.self.now in
    let run = subst (λ (w : StoredView _). IsStoredRun d.tells (d.faults w.disk) (d.state w.disk) w) c.self.view_is
    c.self.invariant in
    stored_apart d.tells (d.faults v.disk) (d.state v.disk) v c.args.gid run c.requires.wrong.going told

pub returns-then-lists-clause-did : goal.returns-then-lists-clause-did
returns-then-lists-clause-did g c =
    let d = g.D.Disk in
    let v = c.args.self.now in
    let n = c.save_one.new.self in
    let gid = c.args.gid in
    let lists = c.if-lists.true in
    did_by (λ from past. IfElse (IsUnlistedIn v.machine.start past gid c.args.piece) NoEvent (SavePhase (turn_from v from) gid))
    v.machine.past (d.faults v.disk) n.machine.past (d.faults n.disk) c.save_one.result
    (did_else (IsUnlistedIn v.machine.start v.machine.past gid c.args.piece) (λ from. NoEvent)
    (λ from. SavePhase (turn_from v from) gid) v.machine.past (d.faults v.disk) n.machine.past (d.faults n.disk)
    c.save_one.result
    (λ unlisted. absurd (let is = c.lists.ensures.1
    (subst (λ (w : StoredView _). IsPieceUnlisted w.machine gid c.args.piece) (sym c.self.view_is) unlisted) in cc))
    c.save_one.ensures.did)

pub returns-then-lists-clause-still : goal.returns-then-lists-clause-still
returns-then-lists-clause-still g c went =
    let d = g.D.Disk in
    let v = c.args.self.now in
    let n = c.save_one.new.self in
    let start = c.save_one.ensures.on.start in
    let past = saved_past v n c.args.gid (d.faults v.disk) (d.faults n.disk) c.save_one.result c.save_one.ensures.did went in
    let wrong = c.requires.wrong in
    let found = save_wrong v.machine.start n.machine.start v.machine.past n.machine.past c.args.gid c.args.piece v.now
    start past wrong.within wrong.own in
    record {
      going = save_goes v.machine.start n.machine.start v.machine.past n.machine.past c.args.gid v.now start past
          wrong.going;
      within = found.within;
      own = found.own;
    }

pub returns-then-lists-clause-unlisted : goal.returns-then-lists-clause-unlisted
returns-then-lists-clause-unlisted g c went =
    let d = g.D.Disk in
    let v = c.args.self.now in
    let n = c.save_one.new.self in
    let start = c.save_one.ensures.on.start in
    let past = saved_past v n c.args.gid (d.faults v.disk) (d.faults n.disk) c.save_one.result c.save_one.ensures.did went in
    save_unlists v.machine.start n.machine.start v.machine.past n.machine.past c.args.gid c.args.piece v.now start past
    c.requires.wrong.own

pub returns-else-lists-clause-did : goal.returns-else-lists-clause-did
returns-else-lists-clause-did g c =
    let d = g.D.Disk in
    let v = c.args.self.now in
    let f = d.faults v.disk in
    let gid = c.args.gid in
    let unlisted = subst (λ (w : StoredView _). IsPieceUnlisted w.machine gid c.args.piece) c.self.view_is
    (c.lists.ensures.0 c.if-lists.false) in
    did_by (λ from past. IfElse (IsUnlistedIn v.machine.start past gid c.args.piece) NoEvent (SavePhase (turn_from v from) gid))
    v.machine.past f v.machine.past f _
    (did_if (IsUnlistedIn v.machine.start v.machine.past gid c.args.piece) (λ from. NoEvent)
    (λ from. SavePhase (turn_from v from) gid) v.machine.past f v.machine.past f _ unlisted
    (did_nothing v.machine.past f f (omega arith)))

pub returns-else-lists-clause-disk : goal.returns-else-lists-clause-disk
returns-else-lists-clause-disk g c told want is =
    let v = c.args.self.now in
    let kept = subst (λ (w : StoredView _). AreWantsKept w.machine.start w.machine.past w.wants.items) c.self.view_is
    c.self.invariant.wants_are in
    stores_none c.runs_follow.ensures.give want (own_in v c.args.gid) (own_in v c.args.gid) (g.D.Disk.state v.disk)
    (kept.sound c.args.gid want is) (grown_none (own_in v c.args.gid))

pub returns-then-lists-clause-left : goal.returns-then-lists-clause-left
returns-then-lists-clause-left g c over = c.save_one.ensures.left

pub returns-else-lists-clause-left : goal.returns-else-lists-clause-left
returns-else-lists-clause-left g c over = absurd (over refl)

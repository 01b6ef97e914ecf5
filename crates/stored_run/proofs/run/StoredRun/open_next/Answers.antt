use Rattle.std.proofs.Common.{◌≡◌, ◌≤◌, ◌∙◌, Option, Some, ap, arith, false, refl, subst, sym, true}
use Rattle.std.specs.Prelude.{IfNone}
use Rattle.control_file.specs.Wants.{IsWant}
use Rattle.dl_history.specs.OwnEvents.{Halts}
use Rattle.dl_history.specs.PayloadParts.{is_opened}
use Rattle.machine_core.proofs.Here.{told_some}
use Rattle.machine_core.specs.Claiming.{next_to_open}
use Rattle.machine_core.specs.Clashes.{HasClash, IsClear, SharesNoName}
use Rattle.machine_core.specs.DownloadWants.{HasWant}
use Rattle.machine_core.specs.Openings.{HasPlan}
use Rattle.machine_core.specs.OwnParts.{own_of}
use Rattle.machine_core.specs.RunLegal.{MayFollow}
use Rattle.machine_core.specs.declared.ends.End.{End}
use Rattle.machine_core.specs.declared.events.Event.TheVariants.{Ended}
use Rattle.engine_turns.specs.declared.operations.Said.TheVariants.{Done, NoMemory}
use Rattle.stored_run.specs.Opening.{IsToResume, OpensDisk}
use Rattle.stored_run.specs.Views.{own_in}
use Rattle.stored_run.specs.declared.run.StoredView.{StoredView}
use Rattle.stored_run.proofs.Doing.{continues_none, continues_wider}
use Rattle.stored_run.proofs.Kept.{own_at}
use Rattle.stored_run.proofs.OfOne.{all_own}
use Rattle.stored_run.proofs.OpenDisk.{opens_none_of, other_opened}
use Rattle.stored_run.proofs.OpenNext.{before_opening, has_plan, ok_some, unopened_next}
use Rattle.stored_run.proofs.OpenParts.{clash_count, clash_row, opened_row, starved_row}
use Rattle.stored_run.proofs.PlainEvents.{continues_event, told_so}
use Rattle.stored_run.proofs.RefusedEnds.{clash_ends, none_ends}
use Rattle.stored_run.proofs.Unchecked.{checks_truly, unchecked_one, unchecked_still}
use Rattle.stored_run.proofs.run.StoredRun.open_next.Goals as goal

pub returns-in_default-clause-row : goal.returns-in_default-clause-row
returns-in_default-clause-row g c = starved_row c.args.self.now c.args.gid (g.D.Disk.faults c.args.self.now.disk)

pub returns-in_default-clause-on : goal.returns-in_default-clause-on
returns-in_default-clause-on g c =
    continues_wider 0 3 c.args.self.now c.args.self.now (omega arith) (continues_none c.args.self.now)

pub end_unopened-requires-clause-may : goal.end_unopened-requires-clause-may
end_unopened-requires-clause-may g c =
    let u = c.self.inside in
    let m = u.machine in
    let gid = c.args.gid in
    let how = c.in-Some.end in
    let next = subst (λ (v : StoredView _). next_to_open v.machine.start v.machine.past ≡ Some gid) (sym c.self.view_is)
    c.requires.next in
    subst (λ (v : StoredView _). MayFollow v.machine.start v.machine.past (Ended gid how)) c.self.view_is
    (told_some (λ (h : End). MayFollow m.start m.past (Ended gid h)) _ how c.in-Some.is
    (c.in-Ok.ensures.may (before_opening c.runs_follow.ensures m gid c.self.invariant.legal next)))

pub end_unopened-requires-clause-fault : goal.end_unopened-requires-clause-fault
end_unopened-requires-clause-fault g c =
    let d = g.D.Disk in
    let m = c.self.inside.machine in
    let how = c.in-Some.end in
    clash_count m c.args.gid how (d.faults c.args.self.now.disk)
    (told_some (HasClash m c.args.gid) _ how c.in-Some.is c.in-Ok.ensures.found)

pub returns-in-Some-clause-row : goal.returns-in-Some-clause-row
returns-in-Some-clause-row g c =
    let d = g.D.Disk in
    let v = c.args.self.now in
    let n = c.end_unopened.new.self in
    let how = c.in-Some.end in
    let has = subst (λ (w : StoredView _). HasClash w.machine c.args.gid how) c.self.view_is
    (told_some (HasClash c.self.inside.machine c.args.gid) _ how c.in-Some.is c.in-Ok.ensures.found) in
    clash_row v n c.args.gid how (d.faults v.disk) (d.faults n.disk)
    (ap d.faults c.end_unopened.ensures.disk) has c.end_unopened.ensures

pub returns-in-Some-clause-on : goal.returns-in-Some-clause-on
returns-in-Some-clause-on g c =
    let v = c.args.self.now in
    let n = c.end_unopened.new.self in
    continues_wider 1 3 v n (omega arith)
    (continues_event c.runs_follow.ensures (Ended c.args.gid c.in-Some.end) v n c.end_unopened.ensures
    c.tells_stored.ensures.wants_are)

pub open_one-requires-clause-to_open : goal.open_one-requires-clause-to_open
open_one-requires-clause-to_open g c =
    let u = c.self.inside in
    let m = u.machine in
    let gid = c.args.gid in
    let want = c.in-Ok-Some.want in
    let next = subst (λ (v : StoredView _). next_to_open v.machine.start v.machine.past ≡ Some gid) (sym c.self.view_is)
    c.requires.next in
    subst (λ (v : StoredView _). IsToResume v.machine gid want) c.self.view_is
    (record {
      before = before_opening c.runs_follow.ensures m gid c.self.invariant.legal next;
      has = ok_some (HasWant m.start m.past gid) c.make_want.result _ want c.in-Ok-Some.is c.in-Ok-Some.field-0-is
          c.make_want.ensures.found;
      sound = ok_some IsWant c.make_want.result _ want c.in-Ok-Some.is c.in-Ok-Some.field-0-is c.make_want.ensures.sound;
      apart = subst (λ (o : Option End). IfNone o (SharesNoName m gid)) c.in_default-clash.is c.in-Ok.ensures.apart;
    })

pub returns-in-Ok-Some-clause-row : goal.returns-in-Ok-Some-clause-row
returns-in-Ok-Some-clause-row g c =
    let d = g.D.Disk in
    let u = c.self.inside in
    let m = u.machine in
    let v = c.args.self.now in
    let n = c.open_one.new.self in
    let gid = c.args.gid in
    let want = c.in-Ok-Some.want in
    let has = ok_some (HasWant m.start m.past gid) c.make_want.result _ want c.in-Ok-Some.is c.in-Ok-Some.field-0-is
    c.make_want.ensures.found in
    let sound = ok_some IsWant c.make_want.result _ want c.in-Ok-Some.is c.in-Ok-Some.field-0-is c.make_want.ensures.sound in
    let clear = subst (λ (o : Option End). IfNone o (HasPlan m gid → IsClear m gid)) c.in_default-clash.is
    c.in-Ok.ensures.none in
    let clear_then = subst (λ (w : StoredView _). IsClear w.machine gid) c.self.view_is (clear (has_plan m gid want has sound)) in
    let has_then = subst (λ (w : StoredView _). HasWant w.machine.start w.machine.past gid want) c.self.view_is has in
    opened_row v n gid has_then.download (d.faults v.disk) (d.faults n.disk) c.open_one.result c.done_unless_starved.result
    has_then.added (clear_then has_then.download has_then.added) c.done_unless_starved.ensures
    (c.open_one.ensures.did has_then.download has_then.added)

pub returns-in_default-make_want-clause-row : goal.returns-in_default-make_want-clause-row
returns-in_default-make_want-clause-row g c =
    starved_row c.args.self.now c.args.gid (g.D.Disk.faults c.args.self.now.disk)

pub returns-in_default-make_want-clause-on : goal.returns-in_default-make_want-clause-on
returns-in_default-make_want-clause-on g c =
    continues_wider 0 3 c.args.self.now c.args.self.now (omega arith) (continues_none c.args.self.now)

pub returns-in_default-clause-leaves : goal.returns-in_default-clause-leaves
returns-in_default-clause-leaves g c told =
    let d = g.D.Disk in
    let v = c.args.self.now in
    opens_none_of c.runs_follow.ensures d.tells (d.faults v.disk) v v (d.state v.disk) c.tells_stored.ensures told
    (λ h goes. refl) c.args.gid NoMemory
    (unopened_next c.runs_follow.ensures v c.args.gid c.tells_stored.ensures.legal c.requires.next)

pub returns-in-Some-clause-leaves : goal.returns-in-Some-clause-leaves
returns-in-Some-clause-leaves g c told =
    let d = g.D.Disk in
    let v = c.args.self.now in
    let n = c.end_unopened.new.self in
    let gid = c.args.gid in
    let e = Ended gid c.in-Some.end in
    let unopened = unopened_next c.runs_follow.ensures v gid c.tells_stored.ensures.legal c.requires.next in
    subst (λ x. OpensDisk gid v n Done (d.state v.disk) (d.state x)) (sym c.end_unopened.ensures.disk)
    (opens_none_of c.runs_follow.ensures d.tells (d.faults v.disk) v n (d.state v.disk) c.tells_stored.ensures told
    (λ h goes.
    let apart = other_opened gid h (own_in v) unopened goes.opened in
    told_so c.runs_follow.ensures e v n c.end_unopened.ensures (λ s past ws. own_of s past h ≡ own_in v h)
    ((all_own gid).ended c.in-Some.end v.machine.start v.machine.past h apart))
    gid Done
    (told_so c.runs_follow.ensures e v n c.end_unopened.ensures (λ s past ws. is_opened (own_of s past gid) ≡ false)
    (ap is_opened (own_at gid (Halts true) (own_in v gid)) ∙ unopened)))

pub returns-in-Ok-Some-clause-leaves : goal.returns-in-Ok-Some-clause-leaves
returns-in-Ok-Some-clause-leaves g c told =
    c.open_one.ensures.leaves told c.done_unless_starved.result c.done_unless_starved.ensures

pub returns-in_default-make_want-clause-leaves : goal.returns-in_default-make_want-clause-leaves
returns-in_default-make_want-clause-leaves g c told =
    let d = g.D.Disk in
    let v = c.args.self.now in
    opens_none_of c.runs_follow.ensures d.tells (d.faults v.disk) v v (d.state v.disk) c.tells_stored.ensures told
    (λ h goes. refl) c.args.gid NoMemory
    (unopened_next c.runs_follow.ensures v c.args.gid c.tells_stored.ensures.legal c.requires.next)

pub returns-in_default-clause-ends : goal.returns-in_default-clause-ends
returns-in_default-clause-ends g c told =
    none_ends c.args.self.now c.args.self.now (g.D.Disk.state c.args.self.now.disk).seen refl

pub returns-in-Some-clause-ends : goal.returns-in-Some-clause-ends
returns-in-Some-clause-ends g c told =
    let v = c.args.self.now in
    let m = c.self.inside.machine in
    let how = c.in-Some.end in
    clash_ends v c.end_unopened.new.self m (g.D.Disk.state v.disk).seen c.args.gid how
    (told_some (HasClash m c.args.gid) _ how c.in-Some.is c.in-Ok.ensures.found) c.end_unopened.ensures.past

pub returns-in_default-make_want-clause-ends : goal.returns-in_default-make_want-clause-ends
returns-in_default-make_want-clause-ends g c told =
    none_ends c.args.self.now c.args.self.now (g.D.Disk.state c.args.self.now.disk).seen refl

pub returns-in_default-clause-checks : goal.returns-in_default-clause-checks
returns-in_default-clause-checks g c told =
    let v = c.args.self.now in unchecked_still v v (g.D.Disk.state v.disk).seen refl

pub returns-in-Some-clause-checks : goal.returns-in-Some-clause-checks
returns-in-Some-clause-checks g c told =
    let n = c.end_unopened.new.self in
    unchecked_one c.args.self.now n (g.D.Disk.state n.disk).seen (Ended c.args.gid c.in-Some.end)
    c.end_unopened.ensures.past tt

pub returns-in-Ok-Some-clause-checks : goal.returns-in-Ok-Some-clause-checks
returns-in-Ok-Some-clause-checks g c told =
    let n = c.open_one.new.self in
    checks_truly c.args.gid c.args.self.now n (g.D.Disk.state n.disk).seen (c.open_one.ensures.checks told)

pub returns-in_default-make_want-clause-checks : goal.returns-in_default-make_want-clause-checks
returns-in_default-make_want-clause-checks g c told =
    let v = c.args.self.now in unchecked_still v v (g.D.Disk.state v.disk).seen refl

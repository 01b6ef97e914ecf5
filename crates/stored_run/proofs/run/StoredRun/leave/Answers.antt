use Rattle.std.proofs.Common.{◌≡◌, ◌≤◌, [], ◌∷◌, ap, refl, sym, ◌∙◌, subst, arith}
use Rattle.machine_core.specs.RunLegal.{MayFollow, doors_left}
use Rattle.machine_core.specs.declared.events.Event.TheVariants.{Left}
use Rattle.stored_run.specs.Steps.{turn_from}
use Rattle.stored_run.specs.Stored.{IsStoredWith, IsStoredRun}
use Rattle.stored_run.proofs.Doors.{leaves, leaves_none}
use Rattle.stored_run.proofs.Kept.{after_event}
use Rattle.stored_run.proofs.SaveOne.{appended, past_by}
use Rattle.stored_run.proofs.Leaving.{leaves_door, leaves_still}
use Rattle.stored_run.specs.declared.run.StoredView.{StoredView}
use Rattle.stored_run.proofs.run.StoredRun.leave.Goals as goal

pub invariant_of-self : goal.invariant_of-self
invariant_of-self g c =
    let m = c.self.inside.machine in
    let disk = g.D.Disk.state c.self.inside.disk in
    let faults = g.D.Disk.faults c.self.inside.disk in
    let event = c.left.ensures.event in
    appended m c.left.new.self Left
    (λ s p. IsStoredWith g.D.Disk.tells faults disk s p c.self.inside.wants.items c.self.inside.now) event
    (after_event c.runs_follow.ensures g.D.Disk.tells faults faults disk disk m.start m.past c.self.inside.wants.items
    c.self.inside.now Left c.self.invariant (record {
      may = subst (λ e. MayFollow m.start m.past e) event.is event.may;
      none = λ gid is. is;
      moment = tt;
      more = omega arith;
      fault = tt;
      still = λ told gid want goes went had stays. stays;
    }))

pub returns-then-doors-eq0-clause-row : goal.returns-then-doors-eq0-clause-row
returns-then-doors-eq0-clause-row g c =
    let v = c.args.self.now in
    let none : doors_left v.machine.start v.machine.past ≡ 0 =
    subst (λ r. doors_left r.machine.start r.machine.past ≡ 0) c.self.view_is (sym c.doors.ensures ∙ c.if-doors-eq0.true) in
    record {
      events = [];
      grown = refl;
      is = λ from s below standing. leaves_none (turn_from v from) s v.machine.past standing none;
      later = omega arith;
      counts = refl;
    }

pub returns-clause-row : goal.returns-clause-row
returns-clause-row g c =
    let v = c.args.self.now in
    let some : 1 ≤ doors_left v.machine.start v.machine.past =
    subst (λ r. 1 ≤ doors_left r.machine.start r.machine.past) c.self.view_is
    (let is = c.doors.ensures in let not = c.if-doors-eq0.false in omega arith) in
    record {
      events = Left ∷ [];
      grown = subst (λ r. c.left.new.self.past ≡ Left ∷ r.machine.past) c.self.view_is
          (past_by c.self.inside.machine c.left.new.self Left c.left.ensures.event);
      is = λ from s below standing. leaves (turn_from v from) s v.machine.past standing some;
      later = subst (λ r. g.D.Disk.faults r.disk ≤ g.D.Disk.faults c.self.inside.disk) c.self.view_is (omega arith);
      counts = (tt, ap (λ r. g.D.Disk.faults r.disk) c.self.view_is);
    }

pub returns-then-doors-eq0-clause-leaves : goal.returns-then-doors-eq0-clause-leaves
returns-then-doors-eq0-clause-leaves g c told =
    let d = g.D.Disk in
    let v = c.args.self.now in
    let run = subst (λ (r : StoredView _). IsStoredRun d.tells (d.faults r.disk) (d.state r.disk) r) c.self.view_is
    c.self.invariant in
    leaves_still c.runs_follow.ensures d.tells (d.faults v.disk) v (d.state v.disk) run told

pub returns-clause-leaves : goal.returns-clause-leaves
returns-clause-leaves g c told =
    let d = g.D.Disk in
    leaves_door c.runs_follow.ensures d.tells d.faults d.state _ c.args.self.now c.left.new.self c.self.view_is
    c.self.invariant told c.left.ensures.event

use Rattle.std.proofs.Common.{◌<◌, length, refl, subst, sym}
use Rattle.machine_core.specs.MachineViews.{place_in}
use Rattle.machine_core.specs.Reads.{downloads_in}
use Rattle.stored_run.specs.Opening.{StandsStill}
use Rattle.stored_run.specs.declared.run.StoredView.{StoredView}
use Rattle.stored_run.proofs.Openings.{held_kept, held_same}
use Rattle.stored_run.proofs.run.StoredRun.hold_place.Goals as goal

pub invariant_of-self : goal.invariant_of-self
invariant_of-self g c =
    let d = g.D.Disk in
    let u = c.self.inside in
    held_kept d.tells (d.faults u.disk) (d.state u.disk) u.machine.start u.machine.past u.wants.items
    c.make_place.new.wants.items u.now c.args.place
    (subst (λ (v : StoredView _). c.args.place < length (downloads_in v.machine)) (sym c.self.view_is) c.requires)
    c.make_place.ensures.holds c.self.invariant

pub returns-clause-still : goal.returns-clause-still
returns-clause-still g c =
    let u = c.self.inside in
    subst (λ (v : StoredView _). StandsStill v
    (record { disk = u.disk; machine = u.machine; wants = c.make_place.new.wants; now = u.now })) c.self.view_is
    (record {
      machine = refl;
      now = refl;
      wants = λ gid. held_same u.wants.items c.make_place.new.wants.items c.args.place c.make_place.ensures.holds
          (place_in u.machine.start u.machine.past gid);
    })

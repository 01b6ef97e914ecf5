use Rattle.std.proofs.Common.{subst}
use Rattle.machine_core.specs.RunLegal.{MayFollow}
use Rattle.machine_core.specs.declared.events.Event.TheVariants.{Stopped}
use Rattle.stored_run.specs.Stored.{IsStoredWith}
use Rattle.stored_run.proofs.EachSaved.{stopped_kept}
use Rattle.stored_run.proofs.SaveOne.{appended}
use Rattle.stored_run.proofs.run.StoredRun.tell_stop.Goals as goal

pub invariant_of-self : goal.invariant_of-self
invariant_of-self g c =
    let d = g.D.Disk in
    let m = c.self.inside.machine in
    let disk = d.state c.self.inside.disk in
    let faults = d.faults c.self.inside.disk in
    let event = c.stopped.ensures.event in
    appended m c.stopped.new.self Stopped
    (λ s p. IsStoredWith d.tells faults disk s p c.self.inside.wants.items c.self.inside.now) event
    (stopped_kept c.runs_follow.ensures d.tells faults disk m.start m.past c.self.inside.wants.items c.self.inside.now
    (subst (λ e. MayFollow m.start m.past e) event.is event.may) c.self.invariant)

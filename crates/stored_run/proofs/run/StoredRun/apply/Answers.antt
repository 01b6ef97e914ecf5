use Rattle.std.proofs.Common.{subst}
use Rattle.machine_core.specs.RunLegal.{MayFollow}
use Rattle.machine_core.specs.declared.events.Event.TheVariants.{Called}
use Rattle.stored_run.specs.Stored.{IsStoredWith}
use Rattle.stored_run.proofs.EachSaved.{called_kept}
use Rattle.stored_run.proofs.SaveOne.{appended}
use Rattle.stored_run.proofs.run.StoredRun.apply.Goals as goal

pub invariant_of-self-2 : goal.invariant_of-self-2
invariant_of-self-2 g c =
    let d = g.D.Disk in
    let m = c.self.inside.machine in
    let now = c.self.inside.now in
    let disk = d.state c.self.inside.disk in
    let faults = d.faults c.self.inside.disk in
    let event = c.in_ok-applied.ensures.event in
    appended m c.apply_call.new.self (Called c.args.session c.args.call now)
    (λ s p. IsStoredWith d.tells faults disk s p c.self.inside.wants.items now) event
    (called_kept c.runs_follow.ensures d.tells faults disk m.start m.past c.self.inside.wants.items now c.args.session
    c.args.call (subst (λ e. MayFollow m.start m.past e) event.is event.may) c.self.invariant)

use Rattle.std.proofs.Common.{List, ◌∷◌, ◌∙◌, ap, refl, subst, sym, true}
use Rattle.std.specs.Prelude.{◌≤◌, IfSome}
use Rattle.dl_history.specs.OwnEvents.{Halts}
use Rattle.machine_core.specs.RunLegal.{MayFollow, disk_fault_of}
use Rattle.machine_core.specs.Starts.{RunStart}
use Rattle.machine_core.specs.declared.events.Event.{Event}
use Rattle.machine_core.specs.declared.events.Event.TheVariants.{Ended}
use Rattle.stored_run.specs.Stored.{IsStoredWith}
use Rattle.stored_run.specs.declared.run.StoredView.{StoredView}
use Rattle.stored_run.proofs.Kept.{halts}
use Rattle.stored_run.proofs.PlainEvents.{plain_kept}
use Rattle.stored_run.proofs.Single.{moved}
use Rattle.stored_run.proofs.run.StoredRun.end_unopened.Goals as goal

pub invariant_of-self : goal.invariant_of-self
invariant_of-self g c =
    let d = g.D.Disk in
    let u = c.self.inside in
    let m = u.machine in
    let came = c.ended.ensures.event in
    let e = Ended c.args.gid c.args.end in
    let fault = subst (λ (v : StoredView _). IfSome (disk_fault_of (Ended c.args.gid c.args.end)) (λ n. n ≤ d.faults v.disk))
    (sym c.self.view_is) c.requires.fault in
    moved
    (λ (s : RunStart) (past : List Event). IsStoredWith d.tells (d.faults u.disk) (d.state u.disk) s past u.wants.items u.now)
    m.start c.ended.new.self.start (e ∷ m.past) c.ended.new.self.past came.start_is
    (came.past_is ∙ ap (λ (x : Event). x ∷ m.past) came.is)
    (plain_kept c.runs_follow.ensures d.tells (d.faults u.disk) (d.state u.disk) m.start m.past u.wants.items u.now
    c.self.invariant c.args.gid (Halts true) e (halts true) (λ h. refl)
    (subst (λ (x : Event). MayFollow m.start m.past x) came.is came.may) tt fault)

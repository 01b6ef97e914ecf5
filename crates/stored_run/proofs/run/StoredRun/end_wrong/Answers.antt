use Rattle.std.proofs.Common.{◌∙◌, ◌∷◌, ap, arith, refl, subst, sym, true}
use Rattle.dl_history.specs.OwnEvents.{Halts}
use Rattle.engine_turns.specs.Phases.{JustEnd}
use Rattle.engine_turns.specs.declared.outcome.Outcome.TheVariants.{Over}
use Rattle.machine_core.specs.OwnParts.{own_of}
use Rattle.machine_core.specs.RunLegal.{MayFollow}
use Rattle.machine_core.specs.declared.ends.End.TheVariants as end
use Rattle.machine_core.specs.declared.events.Event.{Event}
use Rattle.machine_core.specs.declared.events.Event.TheVariants.{Ended}
use Rattle.stored_run.proofs.Doing.{ends_stored}
use Rattle.stored_run.specs.Views.{IsGoing}
use Rattle.stored_run.specs.declared.run.StoredView.{StoredView}
use Rattle.stored_run.proofs.Endings.{ended_own, going_facts, plain_kept, unended}
use Rattle.stored_run.proofs.Kept.{halts}
use Rattle.stored_run.proofs.Left.{ended_left, held_stored}
use Rattle.stored_run.proofs.Single.{stays_here}
use Rattle.stored_run.proofs.Steady.{disk_still, one_did, payload_read}
use Rattle.stored_run.proofs.run.StoredRun.end_wrong.Goals as goal

pub invariant_of-self : goal.invariant_of-self
invariant_of-self g c =
    let d = g.D.Disk in
    let m = c.self.inside.machine in
    let came = c.ended.ensures.event in
    let e = Ended c.args.gid end.Checksum in
    let disk = d.state c.self.inside.disk in
    plain_kept c.runs_follow.ensures d.tells (d.faults c.self.inside.disk) (d.faults c.self.inside.disk) disk disk m.start
    c.ended.new.self.start m.past c.ended.new.self.past c.self.inside.wants.items c.self.inside.now e c.args.gid
    (Halts true) c.self.invariant came.start_is (came.past_is ∙ ap (λ (x : Event). x ∷ m.past) came.is)
    (subst (λ (x : Event). MayFollow m.start m.past x) came.is came.may) (ended_own c.args.gid end.Checksum)
    (halts true) tt (omega arith) tt (λ told. stays_here disk)

pub returns-clause-did : goal.returns-clause-did
returns-clause-did g c =
    let d = g.D.Disk in
    let m = c.self.inside.machine in
    let came = c.ended.ensures.event in
    one_did _ _ c.self.view_is d.faults (λ v n. JustEnd (Ended c.args.gid end.Checksum)) c.ended.new.self.past
    (d.faults c.self.inside.disk) (Ended c.args.gid end.Checksum) Over
    (came.past_is ∙ ap (λ (x : Event). x ∷ m.past) came.is)
    (tt, refl) (λ from below. refl)

pub returns-clause-disk : goal.returns-clause-disk
returns-clause-disk g c told want kept =
    let m = c.self.inside.machine in
    let came = c.ended.ensures.event in
    ends_stored want _ _ _ _
    (disk_still _ _ c.self.view_is c.runs_follow.ensures g.D.Disk.state c.ended.new.self.start c.ended.new.self.past
    c.args.gid c.self.invariant.wants_are (Ended c.args.gid end.Checksum) came.start_is
    (came.past_is ∙ ap (λ (x : Event). x ∷ m.past) came.is) want kept)

pub returns-clause-left : goal.returns-clause-left
returns-clause-left g c goes told want kept =
    let d = g.D.Disk in
    let m = c.self.inside.machine in
    let came = c.ended.ensures.event in
    let n = c.ended.new.self in
    let gid = c.args.gid in
    let how = end.Checksum in
    let items = c.self.inside.wants.items in
    let laws = c.runs_follow.ensures in
    let disk = d.state c.self.inside.disk in
    let past_is = came.past_is ∙ ap (λ (x : Event). x ∷ m.past) came.is in
    let may = subst (λ (x : Event). MayFollow m.start m.past x) came.is came.may in
    let going = subst (λ (v : StoredView _). IsGoing v gid) (sym c.self.view_is) goes in
    let facts = going_facts m.start m.past items gid c.self.invariant.wants_are going in
    ended_left laws d.tells (d.faults c.self.inside.disk) disk disk m.start n.start m.past n.past items
    c.self.inside.now gid how facts.want c.self.invariant came.start_is past_is may facts.kept
    (held_stored facts.want (own_of m.start m.past gid) disk (c.self.invariant.stored told gid facts.want going facts.kept))
    (unended laws m.start m.past gid c.self.invariant.legal going) (λ same. absurd cc) want kept

pub returns-clause-payload : goal.returns-clause-payload
returns-clause-payload g c told =
    let disk = g.D.Disk.state c.self.inside.disk in
    payload_read _ _ c.self.view_is g.D.Disk.state c.args.gid disk (stays_here disk)

use Rattle.std.proofs.Common.{◌≡◌, false, true, refl, sym, ◌∙◌, ap, subst, arith, ◌∷◌}
use Rattle.dl_history.specs.OwnEvents.{Halts}
use Rattle.dl_history.specs.PayloadParts.{is_ended}
use Rattle.engine_turns.specs.Phases.{DeadPhase}
use Rattle.engine_turns.specs.declared.outcome.Outcome.TheVariants.{Over, Went}
use Rattle.machine_core.specs.OwnParts.{own_of}
use Rattle.machine_core.specs.RunLegal.{MayFollow}
use Rattle.machine_core.specs.Reads.{HasNoDeadMark, IsDeadPiece}
use Rattle.machine_core.specs.declared.ends.End.TheVariants as end
use Rattle.machine_core.specs.declared.events.Event.{Event}
use Rattle.machine_core.specs.declared.events.Event.TheVariants.{Ended}
use Rattle.stored_run.specs.Steps.{turn_from}
use Rattle.stored_run.specs.Stored.{AreWantsKept}
use Rattle.stored_run.specs.declared.run.StoredView.{StoredView}
use Rattle.stored_run.specs.Views.{IsGoing, own_in}
use Rattle.stored_run.proofs.Endings.{going_facts, unended}
use Rattle.stored_run.proofs.Left.{ended_left, held_stored}
use Rattle.stored_run.proofs.Doing.{grown_none, part_event, part_none, stores_none}
use Rattle.stored_run.proofs.Kept.{halts}
use Rattle.stored_run.proofs.Losses.{dead_may, dead_none, dead_over}
use Rattle.stored_run.proofs.PlainEvents.{back_to, plain_after}
use Rattle.stored_run.proofs.Steady.{disk_still}
use Rattle.stored_run.proofs.run.StoredRun.end_where_dead.Goals as goal

pub ended-requires-clause-legal : goal.ended-requires-clause-legal
ended-requires-clause-legal g c =
    let going = back_to (λ w. is_ended (own_in w c.args.gid) ≡ false) _ _ c.self.view_is c.requires.going in
    dead_may c.self.inside.machine c.args.gid c.args.piece c.in-Some.mark going c.in-Some.ensures.found

pub invariant_of-self : goal.invariant_of-self
invariant_of-self g c =
    let a = c.args in
    let came = c.ended.ensures.event in
    let going = back_to (λ w. is_ended (own_in w c.args.gid) ≡ false) _ _ c.self.view_is c.requires.going in
    let e = Ended a.gid (end.Dead a.piece c.in-Some.mark) in
    plain_after c.runs_follow.ensures _ _ _ c.self.inside.machine c.ended.new.self _ _ a.gid (Halts true) e
    c.self.invariant (halts true) (λ g. refl)
    (dead_may c.self.inside.machine a.gid a.piece c.in-Some.mark going c.in-Some.ensures.found) tt refl
    (came.past_is ∙ ap (λ (x : Event). x ∷ c.self.inside.machine.past) came.is) came.start_is

pub returns-in-Some-clause-did : goal.returns-in-Some-clause-did
returns-in-Some-clause-did g c download added =
    let a = c.args in
    let came = c.ended.ensures.event in
    let same = ap (λ w. g.D.Disk.faults w.disk) c.self.view_is in
    let dead = subst (λ w. IsDeadPiece w.machine a.gid a.piece c.in-Some.mark) c.self.view_is c.in-Some.ensures.found in
    let e = Ended a.gid (end.Dead a.piece c.in-Some.mark) in
    part_event (λ at. DeadPhase at download a.piece) e a.self.now (record a.self.now { machine = c.ended.new.self }) _ _
    Over
    (came.past_is ∙ (ap (λ (x : Event). x ∷ c.self.inside.machine.past) came.is
    ∙ ap (λ w. e ∷ w.machine.past) c.self.view_is))
    (tt, same)
    (λ n below. dead_over (turn_from a.self.now n) a.self.now.machine a.gid a.piece c.in-Some.mark download refl added dead)

pub returns-in-None-clause-did : goal.returns-in-None-clause-did
returns-in-None-clause-did g c download added =
    let a = c.args in
    let none = subst (λ w. HasNoDeadMark w.machine a.gid a.piece) c.self.view_is c.in-None.ensures.none in
    part_none (λ at. DeadPhase at download a.piece) a.self.now a.self.now _ _ Went refl refl
    (λ n below. dead_none (turn_from a.self.now n) a.self.now.machine a.gid a.piece download refl added none)

pub returns-in-None-clause-stores : goal.returns-in-None-clause-stores
returns-in-None-clause-stores g c told want is =
    let v = c.args.self.now in
    let kept = subst (λ (w : StoredView _). AreWantsKept w.machine.start w.machine.past w.wants.items) c.self.view_is
    c.self.invariant.wants_are in
    stores_none c.runs_follow.ensures.give want (own_in v c.args.gid) (own_in v c.args.gid) (g.D.Disk.state v.disk)
    (kept.sound c.args.gid want is) (grown_none (own_in v c.args.gid))

pub returns-in-Some-clause-stores : goal.returns-in-Some-clause-stores
returns-in-Some-clause-stores g c told =
    let m = c.self.inside.machine in
    let came = c.ended.ensures.event in
    disk_still _ _ c.self.view_is c.runs_follow.ensures g.D.Disk.state c.ended.new.self.start c.ended.new.self.past
    c.args.gid c.self.invariant.wants_are (Ended c.args.gid (end.Dead c.args.piece c.in-Some.mark)) came.start_is
    (came.past_is ∙ ap (λ (x : Event). x ∷ m.past) came.is)

pub returns-in-Some-clause-left : goal.returns-in-Some-clause-left
returns-in-Some-clause-left g c goes over told want kept =
    let d = g.D.Disk in
    let m = c.self.inside.machine in
    let came = c.ended.ensures.event in
    let n = c.ended.new.self in
    let gid = c.args.gid in
    let how = end.Dead c.args.piece c.in-Some.mark in
    let items = c.self.inside.wants.items in
    let laws = c.runs_follow.ensures in
    let disk = d.state c.self.inside.disk in
    let past_is = came.past_is ∙ ap (λ (x : Event). x ∷ m.past) came.is in
    let may = subst (λ (x : Event). MayFollow m.start m.past x) came.is came.may in
    let going = subst (λ (v : StoredView _). IsGoing v gid) (sym c.self.view_is) goes in
    let facts = going_facts m.start m.past items gid c.self.invariant.wants_are going in
    ended_left laws d.tells (d.faults c.self.inside.disk) disk disk m.start n.start m.past n.past items
    c.self.inside.now gid how facts.want c.self.invariant came.start_is past_is may facts.kept
    (held_stored facts.want (own_of m.start m.past gid) disk (c.self.invariant.stored told gid facts.want going facts.kept))
    (unended laws m.start m.past gid c.self.invariant.legal going) (λ same. absurd cc) want kept

pub returns-in-None-clause-left : goal.returns-in-None-clause-left
returns-in-None-clause-left g c goes over = absurd (over refl)

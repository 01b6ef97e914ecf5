use Rattle.std.proofs.Common.{◌≡◌, ◌∙◌, ◌∷◌, Bool, false, ap, arith, refl, subst, sym}
use Rattle.machine_core.specs.RunLegal.{MayFollow}
use Rattle.machine_core.specs.declared.events.Event.{Event}
use Rattle.machine_core.specs.declared.events.Event.TheVariants.{Settled}
use Rattle.engine_turns.specs.Phases.{FindingPhase}
use Rattle.engine_turns.specs.declared.outcome.Outcome.TheVariants.{Went}
use Rattle.stored_run.specs.Settlings.{HasItsDigest}
use Rattle.stored_run.specs.Steps.{turn_from}
use Rattle.stored_run.specs.Views.{IsGoing}
use Rattle.stored_run.specs.declared.run.StoredView.{StoredView}
use Rattle.stored_run.proofs.Findings.{find_goes, find_kept, find_wrong}
use Rattle.stored_run.proofs.Steady.{disk_still, one_did}
use Rattle.stored_run.proofs.run.StoredRun.find.Goals as goal

pub invariant_of-self : goal.invariant_of-self
invariant_of-self g c =
    let d = g.D.Disk in
    let m = c.self.inside.machine in
    let came = c.settled.ensures.event in
    let giver = came.is.0 in
    find_kept c.runs_follow.ensures d.tells (d.faults c.self.inside.disk) (d.state c.self.inside.disk) m.start
    c.settled.new.self.start m.past c.settled.new.self.past c.self.inside.wants.items c.self.inside.now c.args.gid
    c.args.piece c.args.right giver c.self.invariant came.start_is
    (came.past_is ∙ ap (λ (x : Event). x ∷ m.past) came.is.1)
    (subst (λ (x : Event). MayFollow m.start m.past x) came.is.1 came.may)
    (λ right told.
    subst (λ (v : StoredView _). HasItsDigest v c.args.gid c.args.piece (d.state v.disk).seen) (sym c.self.view_is)
    (c.requires.digest right told))

pub returns-clause-did : goal.returns-clause-did
returns-clause-did g c =
    let d = g.D.Disk in
    let m = c.self.inside.machine in
    let came = c.settled.ensures.event in
    let giver = came.is.0 in
    let may = subst (λ (x : Event). MayFollow m.start m.past x) came.is.1 came.may in
    one_did _ _ c.self.view_is d.faults (λ v n. FindingPhase (turn_from v n) c.args.gid c.args.piece c.args.right)
    c.settled.new.self.past (d.faults c.self.inside.disk) (Settled c.args.gid c.args.piece c.args.right giver) Went
    (came.past_is ∙ ap (λ (x : Event). x ∷ m.past) came.is.1)
    (tt, refl) (λ from below. (giver, may.own.may.givers, refl))

pub returns-clause-disk : goal.returns-clause-disk
returns-clause-disk g c told =
    let m = c.self.inside.machine in
    let came = c.settled.ensures.event in
    disk_still _ _ c.self.view_is c.runs_follow.ensures g.D.Disk.state c.settled.new.self.start c.settled.new.self.past
    c.args.gid c.self.invariant.wants_are (Settled c.args.gid c.args.piece c.args.right came.is.0) came.start_is
    (came.past_is ∙ ap (λ (x : Event). x ∷ m.past) came.is.1)

pub returns-clause-wrong : goal.returns-clause-wrong
returns-clause-wrong g c wrong =
    let m = c.self.inside.machine in
    let came = c.settled.ensures.event in
    let giver = came.is.0 in
    let e_is : came.event ≡ Settled c.args.gid c.args.piece false giver =
    came.is.1 ∙ ap (λ (b : Bool). Settled c.args.gid c.args.piece b giver) wrong in
    let past_is = came.past_is ∙ ap (λ (x : Event). x ∷ m.past) e_is in
    let going = subst (λ (v : StoredView _). IsGoing v c.args.gid) (sym c.self.view_is) c.requires.going in
    let found = find_wrong m.start c.settled.new.self.start m.past c.settled.new.self.past c.args.gid c.args.piece giver
    came.start_is past_is (subst (λ (x : Event). MayFollow m.start m.past x) e_is came.may) in
    record {
      going = find_goes m.start c.settled.new.self.start m.past c.settled.new.self.past c.args.gid c.args.piece false giver
          came.start_is past_is going;
      within = found.within;
      own = found.own;
    }

pub returns-clause-untouched : goal.returns-clause-untouched
returns-clause-untouched g c = ap (λ (v : StoredView _). v.disk) c.self.view_is

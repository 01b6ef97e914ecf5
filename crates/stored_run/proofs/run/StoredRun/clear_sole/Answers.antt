use Rattle.std.proofs.Common.{Bool, refl, sym, ◌∙◌, ap, subst, arith, ◌∷◌, []}
use Rattle.dl_history.specs.OwnEvents.{Clears}
use Rattle.engine_turns.specs.ClaimRows.{sole_phase}
use Rattle.engine_turns.specs.declared.outcome.Outcome.TheVariants.{Went}
use Rattle.machine_core.specs.RunLegal.{MayFollow}
use Rattle.machine_core.specs.declared.events.Event.{Event}
use Rattle.machine_core.specs.declared.events.Event.TheVariants.{Cleared}
use Rattle.stored_run.proofs.Doing.{part_event}
use Rattle.stored_run.proofs.Kept.{clears}
use Rattle.stored_run.proofs.PlainEvents.{back_to, plain_after}
use Rattle.stored_run.proofs.run.StoredRun.clear_sole.Goals as goal

pub invariant_of-self : goal.invariant_of-self
invariant_of-self g c =
    let a = c.args in
    let came = c.cleared.ensures.event in
    let may = back_to (λ w. MayFollow w.machine.start w.machine.past (Cleared a.gid a.piece)) _ _ c.self.view_is
    (c.requires.may c.if-sole.true) in
    plain_after c.runs_follow.ensures _ _ _ c.self.inside.machine c.cleared.new.self _ _ a.gid (Clears a.piece)
    (Cleared a.gid a.piece) c.self.invariant (clears a.piece) (λ g. refl) may tt refl
    (came.past_is ∙ ap (λ (e : Event). e ∷ c.self.inside.machine.past) came.is) came.start_is

pub returns-then-sole-clause-did : goal.returns-then-sole-clause-did
returns-then-sole-clause-did g c =
    let a = c.args in
    let came = c.cleared.ensures.event in
    let same = ap (λ w. g.D.Disk.faults w.disk) c.self.view_is in
    part_event (λ at. sole_phase a.gid a.piece a.sole) (Cleared a.gid a.piece) a.self.now
    (record a.self.now { machine = c.cleared.new.self }) _ _ Went
    (came.past_is ∙ (ap (λ (e : Event). e ∷ c.self.inside.machine.past) came.is
    ∙ ap (λ w. Cleared a.gid a.piece ∷ w.machine.past) c.self.view_is))
    (tt, same)
    (λ n below. subst (λ (b : Bool). sole_phase a.gid a.piece b a.self.now.machine.past (Cleared a.gid a.piece ∷ []) Went)
    (sym c.if-sole.true) refl)

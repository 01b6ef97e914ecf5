use Rattle.std.proofs.Common.{refl, ◌∙◌, ap, ◌∷◌}
use Rattle.dl_history.specs.OwnEvents.{Sizes}
use Rattle.machine_core.specs.MachineViews.{StandsUnder}
use Rattle.machine_core.specs.declared.events.Event.{Event}
use Rattle.machine_core.specs.declared.events.Event.TheVariants.{Sized}
use Rattle.stored_run.proofs.Kept.{sizes}
use Rattle.stored_run.proofs.Losses.{size_is, size_may}
use Rattle.stored_run.proofs.PlainEvents.{back_to, plain_after, told_by}
use Rattle.stored_run.proofs.run.StoredRun.tell_size.Goals as goal

pub sized-requires-clause-legal : goal.sized-requires-clause-legal
sized-requires-clause-legal g c =
    let a = c.args in
    let stands = back_to (λ w. StandsUnder w.machine a.claim.id a.gid a.claim) _ _ c.self.view_is c.requires.stands in (
      Sized a.gid a.claim.id a.total,
      (a.gid, refl),
      size_may c.runs_follow.ensures c.self.inside.machine a.gid a.claim a.total c.self.invariant.legal stands
          c.requires.probe,
    )

pub invariant_of-self : goal.invariant_of-self
invariant_of-self g c =
    let a = c.args in
    let stands = back_to (λ w. StandsUnder w.machine a.claim.id a.gid a.claim) _ _ c.self.view_is c.requires.stands in
    let came = c.sized.ensures.event in
    let is = size_is c.self.inside.machine a.gid a.claim a.total came.event stands came.is came.may in
    plain_after c.runs_follow.ensures _ _ _ c.self.inside.machine c.sized.new.self _ _ a.gid
    (Sizes a.claim.id a.total) (Sized a.gid a.claim.id a.total) c.self.invariant (sizes a.claim.id a.total)
    (λ g. refl)
    (size_may c.runs_follow.ensures c.self.inside.machine a.gid a.claim a.total c.self.invariant.legal stands
    c.requires.probe)
    tt refl (came.past_is ∙ ap (λ (e : Event). e ∷ c.self.inside.machine.past) is) came.start_is

pub returns : goal.returns
returns g c =
    let a = c.args in
    let stands = back_to (λ w. StandsUnder w.machine a.claim.id a.gid a.claim) _ _ c.self.view_is c.requires.stands in
    let came = c.sized.ensures.event in
    let is = size_is c.self.inside.machine a.gid a.claim a.total came.event stands came.is came.may in
    told_by _ _ c.sized.new.self (Sized a.gid a.claim.id a.total) c.self.view_is
    (came.past_is ∙ ap (λ (e : Event). e ∷ c.self.inside.machine.past) is) came.start_is c.sized.ensures.room

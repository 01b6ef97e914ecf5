use Rattle.std.proofs.Common.{◌≡◌, refl, ◌∙◌, ap, ◌∷◌}
use Rattle.dl_history.specs.OwnEvents.{Loses}
use Rattle.engine_turns.specs.ClaimRows.{lost_piece}
use Rattle.machine_core.specs.MachineViews.{HasMarkRoomAt, StandsUnder}
use Rattle.machine_core.specs.declared.events.Event.{Event}
use Rattle.machine_core.specs.declared.events.Event.TheVariants.{Lost}
use Rattle.stored_run.proofs.Failing.{loss_is, loss_may}
use Rattle.stored_run.proofs.Kept.{loses}
use Rattle.stored_run.proofs.PlainEvents.{back_to, plain_after, told_by}
use Rattle.stored_run.proofs.run.StoredRun.tell_loss.Goals as goal

pub lost-requires-clause-legal : goal.lost-requires-clause-legal
lost-requires-clause-legal g c =
    let a = c.args in
    let stands = back_to (λ w. StandsUnder w.machine a.claim.id a.gid a.claim) _ _ c.self.view_is c.requires.stands in
    let piece = back_to (λ w. a.piece ≡ lost_piece w.machine.start w.machine.past a.gid a.claim) _ _ c.self.view_is
    c.requires.piece in (
      Lost a.gid a.claim.id a.claim.mirror a.piece a.mark,
      (a.gid, a.claim.mirror, a.piece, refl),
      loss_may c.runs_follow.ensures c.self.inside.machine a.gid a.claim a.piece a.mark c.self.invariant.legal stands
          piece,
    )

pub lost-requires-clause-mark_room : goal.lost-requires-clause-mark_room
lost-requires-clause-mark_room g c =
    back_to (λ w. HasMarkRoomAt w.machine c.args.claim.id) _ _ c.self.view_is c.requires.mark_room

pub invariant_of-self : goal.invariant_of-self
invariant_of-self g c =
    let a = c.args in
    let stands = back_to (λ w. StandsUnder w.machine a.claim.id a.gid a.claim) _ _ c.self.view_is c.requires.stands in
    let piece = back_to (λ w. a.piece ≡ lost_piece w.machine.start w.machine.past a.gid a.claim) _ _ c.self.view_is
    c.requires.piece in
    let came = c.lost.ensures.event in
    let is = loss_is c.self.inside.machine a.gid a.claim a.piece a.mark came.event stands piece came.is came.may in
    plain_after c.runs_follow.ensures _ _ _ c.self.inside.machine c.lost.new.self _ _ a.gid
    (Loses a.claim.id a.claim.mirror a.piece a.mark) (Lost a.gid a.claim.id a.claim.mirror a.piece a.mark)
    c.self.invariant (loses a.claim.id a.claim.mirror a.piece a.mark) (λ g. refl)
    (loss_may c.runs_follow.ensures c.self.inside.machine a.gid a.claim a.piece a.mark c.self.invariant.legal stands
    piece)
    tt refl (came.past_is ∙ ap (λ (e : Event). e ∷ c.self.inside.machine.past) is) came.start_is

pub returns : goal.returns
returns g c =
    let a = c.args in
    let stands = back_to (λ w. StandsUnder w.machine a.claim.id a.gid a.claim) _ _ c.self.view_is c.requires.stands in
    let piece = back_to (λ w. a.piece ≡ lost_piece w.machine.start w.machine.past a.gid a.claim) _ _ c.self.view_is
    c.requires.piece in
    let came = c.lost.ensures.event in
    let is = loss_is c.self.inside.machine a.gid a.claim a.piece a.mark came.event stands piece came.is came.may in
    told_by _ _ c.lost.new.self (Lost a.gid a.claim.id a.claim.mirror a.piece a.mark) c.self.view_is
    (came.past_is ∙ ap (λ (e : Event). e ∷ c.self.inside.machine.past) is) came.start_is c.lost.ensures.room

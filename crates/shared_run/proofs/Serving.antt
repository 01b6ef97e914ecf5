-- A door that was served by a secret was served by one that is the same.
use Rattle.std.proofs.Common.{◌≡◌, ℕ, List, Option, Some, sym, ap, ◌∙◌, subst}
use Rattle.conn_worker.specs.Works.{RunSight}
use Rattle.console_session.specs.DoorSessions.{ServesDoor}
use Rattle.console_session.specs.declared.serving.Transcript.{Transcript}
use Rattle.dl_clock.specs.declared.clock.Clock.{Ghosts as ClockSays}
use Rattle.door_source.specs.declared.Doors.{Ghosts as DoorSays}
use Rattle.engine_core.specs.EngineViews.{EngineStart}
use Rattle.engine_turns.specs.declared.operations.Answer.{Answer}
use Rattle.engine_turns.specs.declared.operations.Operation.{Operation}
use Rattle.machine_core.specs.declared.events.Event.{Event}
use Rattle.turn_desk.specs.Passes.{ChairView, IsPassOf, sight_at}
use Rattle.turn_desk.specs.declared.turn.Given.{Given}
use Rattle.shared_run.specs.Participants.{RunDesk, RunPass, ServedByClock}

abbrev RunChair : Type 0 → Type 0
RunChair D = ChairView (EngineStart D) Operation Answer Event

module _ {D A : Type 0} {doors : DoorSays A} {session most : ℕ} {from to : RunSight D} {door door' : A}
    {transcript : Transcript} where
  pub same_secret : (one other : Option (List ℕ)) → one ≡ other
      → ServesDoor doors session one most from door to door' transcript
      → ServesDoor doors session other most from door to door' transcript
  same_secret one other same =
      subst (λ (s : Option (List ℕ)). ServesDoor doors session s most from door to door' transcript) same

-- what was done at a chair was done at its desk
module _ {D A K : Type 0} {doors : DoorSays A} {clocks : ClockSays K} {session most : ℕ} {secret : Option (List ℕ)}
    {transcript : Transcript} (desk : RunDesk D) (a b : RunChair D) (pass pass' : RunPass D) (old new : A × K) where
  pub at_desk : a.pass ≡ pass → a.desk ≡ desk → b.desk.desk_id ≡ a.desk.desk_id → pass' ≡ b.pass → IsPassOf b.desk pass'
      → ServedByClock doors clocks session secret most (sight_at a.desk a.pass) old (sight_at b.desk b.pass) new transcript
      → IsPassOf desk pass'
      × ServedByClock doors clocks session secret most (sight_at desk pass) old (sight_at desk pass') new transcript
  at_desk pass_is desk_is same pass_after of_desk served =
      let given : b.desk.given ≡ desk.given =
      served.its.went.given ∙ ap (λ (d : RunDesk D). d.given) desk_is in
      let from : sight_at a.desk a.pass ≡ sight_at desk pass =
      ap (λ (d : RunDesk D). sight_at d a.pass) desk_is ∙ ap (λ (p : RunPass D). sight_at desk p) pass_is in
      let to : sight_at b.desk b.pass ≡ sight_at desk pass' =
      ap (λ (x : Given (EngineStart D) Event).
      record { given = x; number = b.pass.number; seen = b.pass.seen; own = b.pass.own }) given
      ∙ ap (λ (p : RunPass D). sight_at desk p) (sym pass_after) in (
        (
          of_desk.0 ∙ (same ∙ ap (λ (d : RunDesk D). d.desk_id) desk_is),
          of_desk.1 ∙ ap (λ (x : Given (EngineStart D) Event). Some x) given,
        ),
        subst
            (λ (s : RunSight D). ServedByClock doors clocks session secret most s old (sight_at desk pass') new transcript)
            from (subst
            (λ (s : RunSight D). ServedByClock doors clocks session secret most (sight_at a.desk a.pass) old s new
            transcript) to served),
      )

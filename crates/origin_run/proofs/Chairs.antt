-- What was done at a chair was done at its desk.
use Rattle.std.proofs.Common.{◌≡◌, ℕ, Some, ap, sym, ◌∙◌, subst}
use Rattle.console_session.specs.declared.serving.Transcript.{Transcript}
use Rattle.dl_disk.specs.declared.disk.Disk.{Ghosts as DiskSays}
use Rattle.door_source.specs.declared.Doors.{Ghosts as DoorSays}
use Rattle.range_origin.specs.Talking.{ShelfSight}
use Rattle.range_origin.specs.declared.shelf.Ask.{Ask}
use Rattle.range_origin.specs.declared.shelf.Folder.{Folder}
use Rattle.range_origin.specs.declared.shelf.Told.{Told}
use Rattle.turn_desk.specs.Passes.{ChairView, IsPassOf, sight_at}
use Rattle.turn_desk.specs.declared.turn.Given.{Given}
use Rattle.origin_run.specs.Doors.{KeepsByTurns}
use Rattle.origin_run.specs.Sharing.{ShelfDesk, ShelfPass}

abbrev ShelfChair : Type 0 → Type 0
ShelfChair D = ChairView (Folder D) Ask Told (Folder D)

module _ {D A : Type 0} (disk : DiskSays D) (doors : DoorSays A) (desk : ShelfDesk D) (a b : ShelfChair D)
    (pass pass' : ShelfPass D) (number : ℕ) (old new : A) (transcript : Transcript) where
  pub at_desk : a.pass ≡ pass → a.desk ≡ desk → b.desk.desk_id ≡ a.desk.desk_id → pass' ≡ b.pass → IsPassOf b.desk pass'
      → KeepsByTurns disk doors number (sight_at a.desk a.pass) old (sight_at b.desk b.pass) new transcript
      → IsPassOf desk pass' × KeepsByTurns disk doors number (sight_at desk pass) old (sight_at desk pass') new transcript
  at_desk pass_is desk_is same pass_after of_desk served =
      let given : b.desk.given ≡ desk.given =
      served.kept.went.given ∙ ap (λ (d : ShelfDesk D). d.given) desk_is in
      let from : sight_at a.desk a.pass ≡ sight_at desk pass =
      ap (λ (d : ShelfDesk D). sight_at d a.pass) desk_is ∙ ap (λ (p : ShelfPass D). sight_at desk p) pass_is in
      let to : sight_at b.desk b.pass ≡ sight_at desk pass' =
      ap (λ (x : Given (Folder D) (Folder D)).
      record { given = x; number = b.pass.number; seen = b.pass.seen; own = b.pass.own }) given
      ∙ ap (λ (p : ShelfPass D). sight_at desk p) (sym pass_after) in (
        (
          of_desk.0 ∙ (same ∙ ap (λ (d : ShelfDesk D). d.desk_id) desk_is),
          of_desk.1 ∙ ap (λ (x : Given (Folder D) (Folder D)). Some x) given,
        ),
        subst (λ (s : ShelfSight D). KeepsByTurns disk doors number s old (sight_at desk pass') new transcript) from
            (subst (λ (s : ShelfSight D). KeepsByTurns disk doors number (sight_at a.desk a.pass) old s new transcript) to
            served),
      )

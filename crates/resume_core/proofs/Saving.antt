-- An image within a save gives what it gave or what is listed; one without a control file gives what has its digest.
use Rattle.std.proofs.Common.{◌≡◌, ◌⊎◌, inl, inr, ⊎_elim, subst, ap, refl}
use Rattle.dl_disk.specs.Files.{Files}
use Rattle.control_file.specs.Laws.{WrittenIsReadBack}
use Rattle.control_file.specs.Spelling.{control_bytes}
use Rattle.control_file.specs.declared.control.Control.{Control}
use Rattle.control_file.specs.declared.fields.ByteOrder.TheVariants.{Big}
use Rattle.control_file.specs.declared.want.Want.{Want}
use Rattle.resume_core.specs.Found.{Found, Absent, found, found_in, ListsPiece, ListsInFlight}
use Rattle.resume_core.specs.Listing.{GivesJust, MatchesListed}
use Rattle.resume_core.specs.Resume.{PieceResumed, Sound, Agrees, GiveSame}
use Rattle.resume_core.specs.SaveLaws.{SavesListing}
use Rattle.resume_core.specs.Steps.{IsFinished}
use Rattle.resume_core.specs.Wants.{files_in}
use Rattle.resume_core.proofs.Same.{give_same, sound_same, agrees_same}
use Rattle.resume_core.proofs.Saved.{gives_just, sound_saved, agrees_saved}

module _ (back : WrittenIsReadBack) (want : Want) (control : Control) (seen before image : Files)
    (is : SavesListing want control seen before image) where
  pub gives_either : GiveSame want before image ⊎ GivesJust want control image
  gives_either = ⊎_elim
      (λ same. inl (give_same want before image same))
      (λ saved. inr (gives_just back want control seen image is.want_is is.listing is.files saved)) is.saves.files

  pub sound_either : MatchesListed want control seen → Sound want before → Sound want image
  sound_either right sound = ⊎_elim
      (λ same. sound_same want before image same sound)
      (λ saved. sound_saved back want control seen image is.want_is is.listing is.files saved right) is.saves.files

  pub agrees_either : Agrees want seen before → Agrees want seen image
  agrees_either agrees = ⊎_elim
      (λ same. agrees_same want seen before image same agrees)
      (λ saved. agrees_saved want (control_bytes Big control) seen image saved)
      is.saves.files

module _ (want : Want) (seen image : Files) (finished : IsFinished want seen image) where
  absent : found_in want image ≡ Absent
  absent = ap (found want) finished.gone

  pub sound_finished : Sound want image
  sound_finished = record {
    right = λ listed piece gives.
        let given : PieceResumed want Absent (files_in want image) piece =
        subst (λ (f : Found). PieceResumed want f (files_in want image) piece) absent gives in
        ⊎_elim (λ lists. absurd lists) (λ hashed. hashed.2) given.1;
    pieces = λ piece lists. absurd (subst (λ (f : Found). ListsPiece f piece) absent lists);
    blocks = λ block lists. absurd (subst (λ (f : Found). ListsInFlight want.plan.piece_len f block) absent lists);
  }

  pub agrees_finished : Agrees want seen image
  agrees_finished block gives i below = rw finished.files refl

-- What a table lists is saved.
use Rattle.std.proofs.Common.{◌≡◌, inl, inr, ⊎_elim, ◌∙◌, slice_get, sym, refl, ap, List, Bool}
use Rattle.dl_disk.specs.Files.{Files}
use Rattle.dl_disk.specs.Passes.{Performs, performs_none, performs_wider}
use Rattle.dl_disk.specs.State.{DiskState, LeftSince}
use Rattle.payload_files.specs.Payload.{HasFiles}
use Rattle.piece_table.specs.Progress.{Progress}
use Rattle.control_file.specs.Laws.{WrittenIsReadBack}
use Rattle.control_file.specs.Spelling.{control_bytes}
use Rattle.control_file.specs.declared.control.Control.{Control}
use Rattle.control_file.specs.declared.fields.ByteOrder.TheVariants.{Big}
use Rattle.control_file.specs.declared.want.Want.{Want}
use Rattle.resume_core.specs.Listing.{GivesJust, MatchesListed}
use Rattle.resume_core.specs.Resume.{AreSound}
use Rattle.resume_core.specs.Steps.{AreSaved, Saves}
use Rattle.resume_core.specs.Tables.{ListsTable, GivesTable, MatchesTable, IsTableSaved, SavesTable, AreTableSaved, GiveTable, GiveOldOrTable}
use Rattle.control_file.specs.Wants.{IsWant}
use Rattle.resume_core.specs.Wants.{files_in}
use Rattle.resume_core.proofs.Same.{give_same, sound_same, agrees_same, agrees_seen}
use Rattle.resume_core.proofs.Saved.{gives_just, sound_saved, agrees_saved}

module _ (want : Want) (table : Progress) where
  kept : (seen x : Files) → SavesTable want table seen x x
  kept seen x = record { others = λ name beside. refl; files = inl (record { control = refl; files = refl }) }

  -- nothing was done
  pub performs_unput : (disk : DiskState) → Performs (SavesTable want table disk.seen) disk disk
  performs_unput disk = performs_none (SavesTable want table disk.seen) disk (kept disk.seen)

  module _ (control : Control) (lists : ListsTable want table control) where
    saves_table : (seen x y : Files) → Saves want (control_bytes Big control) seen x y → SavesTable want table seen x y
    saves_table seen x y saves = record {
      others = saves.others;
      files = ⊎_elim
          (λ same. inl same)
          (λ saved. inr (record { control = control; lists = lists; saved = saved }))
          saves.files;
    }

    pub performs_table : (seen : Files) (a b : DiskState) → Performs (Saves want (control_bytes Big control) seen) a b
        → Performs (SavesTable want table seen) a b
    performs_table seen a b = performs_wider (Saves want (control_bytes Big control) seen)
        (SavesTable want table seen) a b (saves_table seen)

    pub are_table_saved : (seen : Files) (images : Files → Type 0)
        → AreSaved want (control_bytes Big control) seen images → AreTableSaved want table seen images
    are_table_saved seen images are image left = record { control = control; lists = lists; saved = are image left }

    gives_table : (image : Files) → GivesJust want control image → GivesTable want table image
    gives_table image just = record {
      pieces = λ piece. (
        λ gives. ap (λ (row : List Bool). slice_get row piece) (sym lists.pieces) ∙ (just.pieces piece).0 gives,
        λ set. (just.pieces piece).1 (ap (λ (row : List Bool). slice_get row piece) lists.pieces ∙ set),
      );
      blocks = λ block. (
        λ gives. (lists.blocks block).0 ((just.blocks block).0 gives),
        λ listed. (just.blocks block).1 ((lists.blocks block).1 listed),
      );
    }

    matches : (seen : Files) → MatchesTable want table seen → MatchesListed want control seen
    matches seen right listed piece set =
        right listed piece (ap (λ (row : List Bool). slice_get row piece) (sym lists.pieces) ∙ set)

  module _ (back : WrittenIsReadBack) (is : IsWant want) (a c : DiskState)
      (has : HasFiles want.dir want.layout a.seen) (performs : Performs (SavesTable want table a.seen) a c) where
    gives_saved : (image : Files) → IsTableSaved want table a.seen image → GivesTable want table image
    gives_saved image saved = gives_table saved.control saved.lists image
        (gives_just back want saved.control a.seen image is saved.lists.listing has saved.saved)

    pub gives_throughout : GiveOldOrTable want table a.may_leave (LeftSince c a.moment)
    gives_throughout image left =
        let from = performs.passes.images left.0 image left.1 left.2 left.3 in
        ⊎_elim
        (λ same. inl (from.0, from.1, give_same want from.0 image same))
        (λ saved. inr (gives_saved image saved))
        from.2.files

    pub give_acknowledged : AreTableSaved want table a.seen c.may_leave → GiveTable want table c.may_leave
    give_acknowledged are image left = gives_saved image (are image left)

    pub still_payload : files_in want c.seen ≡ files_in want a.seen
    still_payload = ⊎_elim (λ same. same.files) (λ saved. saved.saved.files) performs.seen.files

    pub saved_now : AreTableSaved want table a.seen c.may_leave → AreTableSaved want table c.seen c.may_leave
    saved_now are image left = let is_saved = are image left in record {
      control = is_saved.control;
      lists = is_saved.lists;
      saved = record {
        control = is_saved.saved.control;
        files = is_saved.saved.files ∙ sym still_payload;
      };
    }

    pub sound_saving : MatchesTable want table a.seen → AreSound want a.seen a.may_leave
        → AreSound want c.seen (LeftSince c a.moment)
    sound_saving right were image left =
        let from = performs.passes.images left.0 image left.1 left.2 left.3 in
        let was = were from.0 from.1 in
        let later = agrees_seen want a.seen c.seen image still_payload in
        ⊎_elim
        (λ same. (sound_same want from.0 image same was.0, later (agrees_same want a.seen from.0 image same was.1)))
        (λ saved. (
          sound_saved back want saved.control a.seen image is saved.lists.listing has saved.saved
              (matches saved.control saved.lists a.seen right),
          later (agrees_saved want (control_bytes Big saved.control) a.seen image saved.saved),
        ))
        from.2.files

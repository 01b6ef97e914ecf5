-- What the calls of the store leave, at each moment, of what every image has.
use Rattle.std.proofs.Common.{◌≡◌, inl, inr, ⊎_elim, sym, ◌∙◌}
use Rattle.dl_disk.specs.Files.{Files}
use Rattle.dl_disk.specs.Passes.{Passes, Performs, passes_wider}
use Rattle.dl_disk.specs.State.{DiskState}
use Rattle.dl_kinds.specs.PlanLaws.{BlocksAreOfPieces, BlocksFollow}
use Rattle.dl_kinds.specs.declared.runs.Run.{Run}
use Rattle.control_file.specs.Laws.{WrittenIsReadBack}
use Rattle.control_file.specs.Wants.{IsWant}
use Rattle.control_file.specs.declared.want.Want.{Want}
use Rattle.dl_history.specs.Accounts.{listing_of}
use Rattle.dl_history.specs.Listings.{Listing}
use Rattle.piece_table.specs.Progress.{Progress}
use Rattle.resume_core.specs.Openings.{KeepsBesides}
use Rattle.resume_core.specs.Runs.{LackRun, TornRun}
use Rattle.resume_core.specs.States.{LeavesTemporary, PerformsFinish, PerformsSave, SamePayload}
use Rattle.resume_core.specs.Steps.{SameBesides, SameFor}
use Rattle.resume_core.specs.Tables.{AreTableSaved}
use Rattle.resume_core.specs.Wants.{control_name, temporary_name, files_in}
use Rattle.resume_core.proofs.Apart.{temporary_apart, temporary_other}
use Rattle.resume_core.proofs.Filed.{files_beside}
use Rattle.resume_core.proofs.Same.{agrees_same, agrees_seen, sound_same}
use Rattle.span_map.specs.Jobs.{IsRun}
use Rattle.durable_progress.specs.Held.{IsHeld}
use Rattle.durable_progress.specs.HeldLaws.{ListsNoneOf, SavesFrom}
use Rattle.durable_progress.specs.HeldSteps.{HeldAreHeldStill, IsHeldNow, OthersStaySound, StaysHeld, StaysHeldOrFinished, StaysHeldOrSaved}
use Rattle.durable_progress.proofs.Beside.{stays}
use Rattle.durable_progress.proofs.Holding.{elsewhere_hold, finishes_hold, held_lacks, same_held, saved_held, saves_hold, writes_hold}

-- where the payload reads as before
pub seen_held : (want : Want) (listing : Listing) (was now image : Files) → files_in want now ≡ files_in want was
    → IsHeld want listing was image → IsHeld want listing now image
seen_held want listing was now image same held = record {
  control = held.control;
  lists = held.lists;
  bytes = held.bytes;
  files = held.files;
  agrees = agrees_seen want was now image same held.agrees;
}

-- ---- other wants

module _ (want : Want) (old new : DiskState) (seen : SameBesides want old.seen new.seen)
    (passes : Passes (SameBesides want) old new) where
  pub others_sound : OthersStaySound want old new
  others_sound other none sound image left =
      let from = passes.images left.0 image left.1 left.2 left.3 in
      let was = sound from.0 from.1 in
      let same = stays want other none from.0 image from.2 in
      let read = stays want other none old.seen new.seen seen in (
        sound_same other from.0 image same was.0,
        agrees_same other new.seen from.0 image same (agrees_seen other old.seen new.seen from.0 read.files was.1),
      )

-- a step that changes only the want's own files
module _ (want : Want) (step : Files → Files → Type 0) (beside : (x y : Files) → step x y → SameBesides want x y)
    (old new : DiskState) (performs : Performs step old new) where
  pub besides : KeepsBesides want old new
  besides = record {
    seen = beside old.seen new.seen performs.seen;
    passes = passes_wider step (SameBesides want) old new beside performs.passes;
  }

  pub others_stay : OthersStaySound want old new
  others_stay = others_sound want old new besides.seen besides.passes

-- ---- saves

module _ (of_pieces : BlocksAreOfPieces) (want : Want) (table : Progress) (old new : DiskState)
    (from : SavesFrom want table old.seen) (same : SamePayload want old new) where
  pub save_stays : PerformsSave want table old new → (listing : Listing)
      → StaysHeldOrSaved want listing (listing_of table) old new
  save_stays performs listing held image left =
      let before = performs.passes.images left.0 image left.1 left.2 left.3 in
      ⊎_elim
      (λ was. inl (seen_held want listing old.seen new.seen image same was))
      (λ saved. inr (seen_held want (listing_of table) old.seen new.seen image same saved))
      (saves_hold of_pieces want table old.seen from listing before.0 image before.2 (held before.0 before.1))

pub table_held : (of_pieces : BlocksAreOfPieces) (want : Want) (table : Progress) (disk : DiskState)
    → SavesFrom want table disk.seen → AreTableSaved want table disk.seen disk.may_leave
    → IsHeldNow want (listing_of table) disk
table_held of_pieces want table disk from saved image left =
    saved_held of_pieces want table disk.seen from image (saved image left)

-- without memory only the temporary file changes
pub unmade_held : (want : Want) (old new : DiskState) → IsWant want → SamePayload want old new
    → LeavesTemporary want old new → (listing : Listing) → IsHeldNow want listing old → IsHeldNow want listing new
unmade_held want old new is same leaves listing held image left =
    let before = leaves image left in
    let stays_so : SameFor want before.0 image = record {
      control = before.2 (control_name want) (λ equal. temporary_apart want (sym equal));
      files = files_beside want (temporary_name want) before.0 image (temporary_other want is) before.2;
    } in
    seen_held want listing old.seen new.seen image same
    (same_held want listing old.seen before.0 image stays_so (held before.0 before.1))

-- ---- writes

module _ (back : WrittenIsReadBack) (follow : BlocksFollow) (want : Want) (run : Run) (is : IsWant want)
    (is_run : IsRun want.plan run) (old new : DiskState) where
  pub lacks : (listing : Listing) → IsHeldNow want listing old → ListsNoneOf listing run → LackRun want run old.may_leave
  lacks listing held none image left = held_lacks back want listing old.seen image is (held image left) run none

  pub write_stays : Performs (TornRun want run) old new → (listing : Listing) → ListsNoneOf listing run
      → StaysHeld want listing old new
  write_stays performs listing none held image left =
      let before = performs.passes.images left.0 image left.1 left.2 left.3 in
      writes_hold back follow want listing run old.seen new.seen
      (record { want_is = is; run_is = is_run; none = none; tears = performs.seen })
      before.0 image before.2 (held before.0 before.1)

  -- also in an image that the write isn't made in
  pub write_still : Performs (TornRun want run) old new → (listing : Listing) → ListsNoneOf listing run
      → HeldAreHeldStill want listing old new
  write_still performs listing none image held = elsewhere_hold back follow want listing run old.seen new.seen
      (record { want_is = is; run_is = is_run; none = none; tears = performs.seen }) image held

-- ---- the end

pub finish_stays : (want : Want) (old new : DiskState) → SamePayload want old new → PerformsFinish want old new
    → (listing : Listing) → StaysHeldOrFinished want listing old new
finish_stays want old new same performs listing held image left =
    let before = performs.passes.images left.0 image left.1 left.2 left.3 in
    ⊎_elim
    (λ was. inl (seen_held want listing old.seen new.seen image same was))
    (λ finished. inr (record { gone = finished.gone; files = finished.files ∙ sym same }))
    (finishes_hold want listing old.seen before.0 image before.2 (held before.0 before.1))

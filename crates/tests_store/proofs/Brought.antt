-- What an opening promises is what a write of a run asks, and what both leave is what a save asks.
use Rattle.std.proofs.Common.{◌≡◌, ◌≢◌, ℕ, List, Some, true, slice_get}
use Rattle.dl_disk.specs.Files.{Files, IsSame}
use Rattle.dl_disk.specs.Passes.{Performs}
use Rattle.dl_disk.specs.State.{DiskState}
use Rattle.dl_kinds.specs.declared.runs.Run.{Run}
use Rattle.span_map.specs.declared.files.FileLen.{FileLen}
use Rattle.payload_files.specs.Payload.{HasFiles}
use Rattle.control_file.specs.declared.want.Opened.{Opened}
use Rattle.control_file.specs.declared.want.Want.{Want}
use Rattle.resume_core.specs.Laws.{WrittenIsUsed}
use Rattle.resume_core.specs.Openings.{AreOpenedIn}
use Rattle.resume_core.specs.Runs.{IsBlockOf, LackRun, TornRun}

module _ (want : Want) (run : Run) (opened : Opened) (disk : DiskState) (are : AreOpenedIn want opened disk.seen disk.may_leave) where
  -- each image has the control file that lists what was opened, so it gives no block that wasn't
  pub lack_run : WrittenIsUsed → ((block : ℕ) → IsBlockOf run block → slice_get opened.blocks block ≢ Some true)
      → LackRun want run disk.may_leave
  lack_run used without image left =
      let is = are image left in
      record {
        used = rw (is.saved.control, used want is.control is.lists.listing) tt;
        blocks = λ block of gives. without block of ((is.gives.blocks block).0 gives);
      }

  -- the disk as it reads is one of its images
  pub opened_files : HasFiles want.dir want.layout disk.seen
  opened_files = (are disk.seen disk.own_image).files

  -- a write of a run leaves the files their lengths
  pub written_files : (new : DiskState) → Performs (TornRun want run) disk new → HasFiles want.dir want.layout new.seen
  written_files new performs = performs.seen.standing opened_files

-- a disk that reads as before has the files still
pub same_files : (dir : List ℕ) (files : List FileLen) (old new : Files) → IsSame old new → HasFiles dir files old → HasFiles dir files new
same_files dir files old new same has = λ k d within. rw (same _) (has k d within)

-- Runs of blocks, which are written where no image gives them, and pieces, which are read.
use Rattle.std.specs.Prelude.{◌≡◌, ◌<◌, ◌≤◌, ℕ, ◌+◌, ◌-◌, List}
use Rattle.dl_disk.specs.Files.{Files}
use Rattle.dl_kinds.specs.Plan.{piece_start, piece_end}
use Rattle.dl_kinds.specs.declared.plan.Plan.{Plan}
use Rattle.dl_kinds.specs.declared.runs.Run.{Run}
use Rattle.span_map.specs.Jobs.{run_start, run_end}
use Rattle.payload_files.specs.Changes.{TornSlice, WritesSlice, HoldsSlice}
use Rattle.control_file.specs.declared.want.Want.{Want}
use Rattle.resume_core.specs.Found.{Found, Absent, Refused, Used, found_in, ListsPiece, ListsInFlight}
use Rattle.resume_core.specs.Resume.{ResumesBlock, Agrees, ReachesPiece, ReachesBlock, piece_payload, GiveSame, GivesAtLeast}
use Rattle.resume_core.specs.Wants.{files_in}

-- how many bytes a run has
abbrev pub run_len : Plan → Run → ℕ
run_len plan run = run_end plan run - run_start plan run

-- the block is one of the run's
pub record IsBlockOf (run : Run) (block : ℕ) : Type 0 where
  pub from : run.first ≤ block
  pub before : block < run.first + run.count

-- a control file of the want stands
abbrev pub IsControlUsed : Found → Type 0
IsControlUsed Absent = ⊥
IsControlUsed Refused = ⊥
IsControlUsed (Used control) = Unit {0}

-- the image has a control file of the want, and gives no block of the run
pub record LacksRun (want : Want) (run : Run) (image : Files) : Type 0 where
  pub used : IsControlUsed (found_in want image)
  pub blocks : (block : ℕ) → IsBlockOf run block → ResumesBlock want image block → ⊥

-- so does each image
abbrev pub LackRun : Want → Run → (Files → Type 0) → Type 0
LackRun want run images = (image : Files) → images image → LacksRun want run image

-- a write of the run, whole or cut short
abbrev pub TornRun : Want → Run → Files → Files → Type 0
TornRun want run = TornSlice want.dir want.layout (run_start want.plan run) (run_len want.plan run)

-- where the files had their lengths, the payload has these bytes in the run's place, and is the same elsewhere
abbrev pub WritesRun : Want → Run → List ℕ → Files → Files → Type 0
WritesRun want run bytes = WritesSlice want.dir want.layout (run_start want.plan run) bytes

-- where the files had their lengths, these bytes stand in the run's place
abbrev pub HoldsRun : Want → Run → List ℕ → Files → Files → Type 0
HoldsRun want run bytes = HoldsSlice want.dir want.layout (run_start want.plan run) bytes

-- the control file lists nothing past the end of a file
pub record ListsWithin (want : Want) (image : Files) : Type 0 where
  pub pieces :
      (piece : ℕ) → ListsPiece (found_in want image) piece → ReachesPiece want (files_in want image) piece
  pub blocks :
      (block : ℕ) → ListsInFlight want.plan.piece_len (found_in want image) block
      → ReachesBlock want (files_in want image) block

abbrev pub ListWithin : Want → (Files → Type 0) → Type 0
ListWithin want images = (image : Files) → images image → ListsWithin want image

-- each image agrees with what the disk reads
abbrev pub AllAgree : Want → Files → (Files → Type 0) → Type 0
AllAgree want seen images = (image : Files) → images image → Agrees want seen image

-- one of the images before gave the same
pub record GivesAsBefore (want : Want) (images : Files → Type 0) (image : Files) : Type 0 where
  pub before : Files
  pub left : images before
  pub same : GiveSame want before image

-- each of these images gives the same as one before, or at least what one gave
abbrev pub GiveAsBefore : Want → (Files → Type 0) → (Files → Type 0) → Type 0
GiveAsBefore want old new = (image : Files) → new image → GivesAsBefore want old image

abbrev pub GiveAtLeast : Want → (Files → Type 0) → (Files → Type 0) → Type 0
GiveAtLeast want old new = (image : Files) → new image → GivesAtLeast want old image

-- how many bytes a piece has
abbrev pub len_of_piece : Plan → ℕ → ℕ
len_of_piece plan piece = piece_end plan.total plan.piece_len piece - piece_start plan.piece_len piece

-- the files have the whole piece, and these are its bytes
pub record ReadsPiece (want : Want) (piece : ℕ) (seen : Files) (read : List ℕ) : Type 0 where
  pub reaches : ReachesPiece want (files_in want seen) piece
  pub bytes : read ≡ piece_payload want (files_in want seen) piece

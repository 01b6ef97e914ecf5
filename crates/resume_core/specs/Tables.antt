-- What a table lists, the control file that lists it, and what an image gives that has it.
use Rattle.std.specs.Prelude.{◌≡◌, ◌↔◌, ◌⊎◌, ◌<◌, ◌≤◌, ℕ, Bool, true, false, List, length, map, slice_get, Some, Contains}
use Rattle.std.specs.List.Sorted.{IsStrictlyIncreasing}
use Rattle.dl_disk.specs.Files.{Files}
use Rattle.dl_kinds.specs.Plan.{blocks_of}
use Rattle.piece_table.specs.Progress.{Progress, IsListed, piece_part}
use Rattle.control_file.specs.Spelling.{bytes_of_piece, control_bytes}
use Rattle.control_file.specs.declared.control.Control.{Control}
use Rattle.control_file.specs.declared.control.InFlight.{InFlight}
use Rattle.control_file.specs.declared.fields.ByteOrder.TheVariants.{Big}
use Rattle.control_file.specs.declared.want.Want.{Want}
use Rattle.resume_core.specs.Listing.{IsListingOf, BlockListed}
use Rattle.resume_core.specs.Resume.{ResumesPiece, ResumesBlock, HasDigest, GiveSame}
use Rattle.resume_core.specs.Steps.{SameBesides, SameFor, IsSaved}
use Rattle.control_file.specs.Wants.{IsListedWant}
use Rattle.resume_core.specs.Wants.{files_in}

-- the table is one of the want's plan
pub record IsTableOf (want : Want) (table : Progress) : Type 0 where
  pub total : table.total ≡ want.plan.total
  pub piece_len : table.piece_len ≡ want.plan.piece_len

-- a place for each block, true where the table lists it
pub record IsListedRow (table : Progress) (row : List Bool) : Type 0 where
  pub len : length row ≡ blocks_of table.total table.piece_len
  pub exact : (block : ℕ) → (slice_get row block ≡ Some true) ↔ IsListed table block

-- A piece in flight: one below this number that isn't verified, with its listed blocks, of which there is one.
pub record IsPartial (total piece_len : ℕ) (verified listed : List Bool) (below : ℕ) (piece : InFlight) : Type 0 where
  pub before : piece.index < below
  pub unverified : slice_get verified piece.index ≡ Some false
  pub size : piece.length ≡ bytes_of_piece total piece_len piece.index
  pub blocks : piece.blocks ≡ piece_part total piece_len listed piece.index
  pub some : Contains piece.blocks true

-- all of them, in order
pub record ArePartial (total piece_len : ℕ) (verified listed : List Bool) (below : ℕ) (flight : List InFlight) : Type 0 where
  pub ascending : IsStrictlyIncreasing (map (λ piece. piece.index) flight)
  pub exact : (piece : InFlight) → Contains flight piece ↔ IsPartial total piece_len verified listed below piece
  pub few : length flight ≤ below

-- a control file of the want that lists just these pieces and these blocks
pub record ListsJust (want : Want) (verified listed : List Bool) (control : Control) : Type 0 where
  pub listing : IsListingOf want control
  pub pieces : control.pieces ≡ verified
  pub blocks : (block : ℕ) → BlockListed want control block ↔ (slice_get listed block ≡ Some true)

-- a control file of the want that lists just what the table lists: its verified pieces, and its listed blocks
pub record ListsTable (want : Want) (table : Progress) (control : Control) : Type 0 where
  pub listing : IsListingOf want control
  pub pieces : control.pieces ≡ table.verified
  pub blocks : (block : ℕ) → BlockListed want control block ↔ IsListed table block

-- the image gives just what the table lists
pub record GivesTable (want : Want) (table : Progress) (image : Files) : Type 0 where
  pub pieces : (piece : ℕ) → ResumesPiece want image piece ↔ (slice_get table.verified piece ≡ Some true)
  pub blocks : (block : ℕ) → ResumesBlock want image block ↔ IsListed table block

-- the verified pieces of a listed want have their digests as the disk reads them
abbrev pub MatchesTable : Want → Progress → Files → Type 0
MatchesTable want table seen =
    IsListedWant want → (piece : ℕ) → slice_get table.verified piece ≡ Some true → HasDigest want (files_in want seen) piece

-- the image has a control file that lists what the table lists, beside the payload that the disk reads
pub record IsTableSaved (want : Want) (table : Progress) (seen image : Files) : Type 0 where
  pub control : Control
  pub lists : ListsTable want table control
  pub saved : IsSaved want (control_bytes Big control) seen image

-- what a crash within a save of the table leaves of an image: what it had, or the new control file
pub record SavesTable (want : Want) (table : Progress) (seen before image : Files) : Type 0 where
  pub others : SameBesides want before image
  pub files : SameFor want before image ⊎ IsTableSaved want table seen image

-- each of these images is so
abbrev pub AreTableSaved : Want → Progress → Files → (Files → Type 0) → Type 0
AreTableSaved want table seen images = (image : Files) → images image → IsTableSaved want table seen image

abbrev pub GiveTable : Want → Progress → (Files → Type 0) → Type 0
GiveTable want table images = (image : Files) → images image → GivesTable want table image

-- the image gives what one of these gave
abbrev pub GivesAsOne : Want → (Files → Type 0) → Files → Type 0
GivesAsOne want images image = (before : Files) × images before × GiveSame want before image

-- each image gives what one before gave, or what the table lists
abbrev pub GiveOldOrTable : Want → Progress → (Files → Type 0) → (Files → Type 0) → Type 0
GiveOldOrTable want table before images = (image : Files) → images image → GivesAsOne want before image ⊎ GivesTable want table image

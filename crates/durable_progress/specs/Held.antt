-- What every image has of a download that is opened: the control file of its last save, beside files of their lengths.
use Rattle.std.specs.Prelude.{◌≡◌, ◌↔◌, ◌⊎◌, ℕ, true, Some, slice_get}
use Rattle.dl_disk.specs.Files.{Files}
use Rattle.payload_files.specs.Payload.{HasFiles}
use Rattle.control_file.specs.Spelling.{control_bytes}
use Rattle.control_file.specs.declared.control.Control.{Control}
use Rattle.control_file.specs.declared.fields.ByteOrder.TheVariants.{Big}
use Rattle.control_file.specs.declared.want.Want.{Want}
use Rattle.dl_history.specs.Listings.{Listing}
use Rattle.resume_core.specs.Resume.{Agrees, ResumesPiece, ResumesBlock}
use Rattle.resume_core.specs.Tables.{ListsJust}
use Rattle.resume_core.specs.Wants.{control_name}

-- A control file that lists just this, beside files of their lengths; what it lists is there as the disk reads it.
pub record IsHeld (want : Want) (listing : Listing) (seen image : Files) : Type 0 where
  pub control : Control
  pub lists : ListsJust want listing.pieces listing.blocks control
  pub bytes : image (control_name want) ≡ Some (control_bytes Big control)
  pub files : HasFiles want.dir want.layout image
  pub agrees : Agrees want seen image

abbrev pub AreHeld : Want → Listing → Files → (Files → Type 0) → Type 0
AreHeld want listing seen images = (image : Files) → images image → IsHeld want listing seen image

-- by one of two listings
abbrev pub IsHeldByEither : Want → Listing → Listing → Files → Files → Type 0
IsHeldByEither want one other seen image = IsHeld want one seen image ⊎ IsHeld want other seen image

-- an opening from this image gives just what is listed
pub record GivesListing (want : Want) (listing : Listing) (image : Files) : Type 0 where
  pub pieces : (piece : ℕ) → ResumesPiece want image piece ↔ (slice_get listing.pieces piece ≡ Some true)
  pub blocks : (block : ℕ) → ResumesBlock want image block ↔ (slice_get listing.blocks block ≡ Some true)

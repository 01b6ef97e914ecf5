-- What the calls of the store do to the files of a want.
use Rattle.std.specs.Prelude.{◌≡◌, ◌≢◌, ◌⊎◌, ℕ, List, Option, Some, None, IsSome, get_or, slice_get}
use Rattle.dl_disk.specs.Files.{Files, IsSame}
use Rattle.payload_files.specs.Names.{IsOther, name_of}
use Rattle.span_map.specs.declared.files.FileLen.{FileLen}
use Rattle.control_file.specs.declared.want.Want.{Want}
use Rattle.resume_core.specs.Wants.{control_name, temporary_name, files_in}

-- the control file and the files of the payload are the same
pub record SameFor (want : Want) (old new : Files) : Type 0 where
  pub control : new (control_name want) ≡ old (control_name want)
  pub files : files_in want new ≡ files_in want old

-- nothing but this file changes
abbrev pub SameBut : List ℕ → Files → Files → Type 0
SameBut name old new = (other : List ℕ) → other ≢ name → new other ≡ old other

-- the file has these bytes, or is the same; beside it and the temporary one nothing changes
pub record PutsOrKeeps (temporary name bytes : List ℕ) (old new : Files) : Type 0 where
  pub others : (other : List ℕ) → other ≢ temporary → other ≢ name → new other ≡ old other
  pub file : (new name ≡ old name) ⊎ (new name ≡ Some bytes)

-- each file of the payload that stood, by the lengths that were found, is as the disk read it
abbrev pub HasStanding : Want → List (Option ℕ) → Files → Files → Type 0
HasStanding want lens seen image =
    (k : ℕ) (file : FileLen) → slice_get want.layout k ≡ Some file → IsSome (get_or lens k None)
    → image (name_of want.dir file.path) ≡ seen (name_of want.dir file.path)

-- the control file is the same, or a new one stands beside what the disk read of each file that stood
abbrev pub PutsBeside : Want → List (Option ℕ) → Files → Files → Files → Type 0
PutsBeside want lens seen old new = (new (control_name want) ≡ old (control_name want)) ⊎ HasStanding want lens seen new

-- the name is none of the want's
pub record IsBeside (want : Want) (name : List ℕ) : Type 0 where
  pub files : IsOther want.dir want.layout name
  pub control : name ≢ control_name want
  pub temporary : name ≢ temporary_name want

abbrev pub SameBesides : Want → Files → Files → Type 0
SameBesides want old new = (name : List ℕ) → IsBeside want name → new name ≡ old name

-- the control file has these bytes, beside the payload that the disk reads
pub record IsSaved (want : Want) (bytes : List ℕ) (seen image : Files) : Type 0 where
  pub control : image (control_name want) ≡ Some bytes
  pub files : files_in want image ≡ files_in want seen

-- what a crash within a save leaves of an image: what it had, or the new control file
pub record Saves (want : Want) (bytes : List ℕ) (seen before image : Files) : Type 0 where
  pub others : SameBesides want before image
  pub files : SameFor want before image ⊎ IsSaved want bytes seen image

-- no control file stands, and the payload is what the disk reads
pub record IsFinished (want : Want) (seen image : Files) : Type 0 where
  pub gone : image (control_name want) ≡ None
  pub files : files_in want image ≡ files_in want seen

-- what a crash within a finish leaves of an image
pub record Finishes (want : Want) (seen before image : Files) : Type 0 where
  pub others : (name : List ℕ) → name ≢ control_name want → image name ≡ before name
  pub files : IsSame before image ⊎ IsFinished want seen image

-- so is every image
abbrev pub AreFinished : Want → Files → (Files → Type 0) → Type 0
AreFinished want seen images = (image : Files) → images image → IsFinished want seen image

abbrev pub AreSaved : Want → List ℕ → Files → (Files → Type 0) → Type 0
AreSaved want bytes seen images = (image : Files) → images image → IsSaved want bytes seen image

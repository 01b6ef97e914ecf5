-- Laws of what images give. They speak of files alone, of no disk and of no moment.
use Rattle.std.specs.Prelude.{◌≡◌, Some, List, ℕ}
use Rattle.dl_disk.specs.Files.{Files}
use Rattle.control_file.specs.Spelling.{control_bytes}
use Rattle.control_file.specs.declared.control.Control.{Control}
use Rattle.control_file.specs.declared.fields.ByteOrder.TheVariants.{Big}
use Rattle.control_file.specs.declared.want.Want.{Want}
use Rattle.payload_files.specs.Payload.{HasFiles}
use Rattle.resume_core.specs.Found.{found, Used}
use Rattle.resume_core.specs.Listing.{IsListingOf, GivesJust, MatchesListed}
use Rattle.resume_core.specs.Resume.{Sound, Agrees, GiveSame}
use Rattle.resume_core.specs.Steps.{SameFor, IsSaved}
use Rattle.control_file.specs.Wants.{IsWant}
use Rattle.resume_core.specs.Wants.{files_in}

-- the same files of a want give the same, as soundly
abbrev pub SameGiveTheSame : Type 0
SameGiveTheSame = (want : Want) (a b : Files) → SameFor want a b → GiveSame want a b

abbrev pub SameAreAsSound : Type 0
SameAreAsSound = (want : Want) (a b : Files) → SameFor want a b → Sound want a → Sound want b

abbrev pub SameAgree : Type 0
SameAgree = (want : Want) (seen a b : Files) → SameFor want a b → Agrees want seen a → Agrees want seen b

abbrev pub SameReadAgrees : Type 0
SameReadAgrees = (want : Want) (old new image : Files) → files_in want new ≡ files_in want old → Agrees want old image → Agrees want new image

-- a control file of the want that was written is used
abbrev pub WrittenIsUsed : Type 0
WrittenIsUsed =
    (want : Want) (control : Control) → IsListingOf want control
    → found want (Some (control_bytes Big control)) ≡ Used control

-- an image with a new control file beside whole files gives just what is listed, and soundly where that matches
abbrev pub SavedGivesJust : Type 0
SavedGivesJust =
    (want : Want) (control : Control) (seen image : Files) → IsWant want → IsListingOf want control
    → HasFiles want.dir want.layout seen → IsSaved want (control_bytes Big control) seen image
    → GivesJust want control image

abbrev pub SavedIsSound : Type 0
SavedIsSound =
    (want : Want) (control : Control) (seen image : Files) → IsWant want → IsListingOf want control
    → HasFiles want.dir want.layout seen → IsSaved want (control_bytes Big control) seen image
    → MatchesListed want control seen → Sound want image

abbrev pub SavedAgrees : Type 0
SavedAgrees =
    (want : Want) (bytes : List ℕ) (seen image : Files) → IsSaved want bytes seen image → Agrees want seen image

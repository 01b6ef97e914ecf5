-- What an image gives within a save and within a finish, and how soundly.
use Rattle.std.specs.Prelude.{◌⊎◌}
use Rattle.dl_disk.specs.Files.{Files}
use Rattle.payload_files.specs.Payload.{HasFiles}
use Rattle.control_file.specs.Spelling.{control_bytes}
use Rattle.control_file.specs.declared.control.Control.{Control}
use Rattle.control_file.specs.declared.fields.ByteOrder.TheVariants.{Big}
use Rattle.control_file.specs.declared.want.Want.{Want}
use Rattle.resume_core.specs.Listing.{IsListingOf, GivesJust, MatchesListed}
use Rattle.resume_core.specs.Resume.{Sound, Agrees, GiveSame}
use Rattle.resume_core.specs.Steps.{Saves, IsFinished}
use Rattle.control_file.specs.Wants.{IsWant}

-- a save of this control file, while each payload file has its length as the disk reads it
pub record SavesListing (want : Want) (control : Control) (seen before image : Files) : Type 0 where
  pub want_is : IsWant want
  pub listing : IsListingOf want control
  pub files : HasFiles want.dir want.layout seen
  pub saves : Saves want (control_bytes Big control) seen before image

-- it gives what it gave, or what is listed
abbrev pub SavesGiveEither : Type 0
SavesGiveEither =
    (want : Want) (control : Control) (seen before image : Files) → SavesListing want control seen before image
    → GiveSame want before image ⊎ GivesJust want control image

abbrev pub SavesAreSound : Type 0
SavesAreSound =
    (want : Want) (control : Control) (seen before image : Files) → SavesListing want control seen before image
    → MatchesListed want control seen → Sound want before → Sound want image

abbrev pub SavesAgree : Type 0
SavesAgree =
    (want : Want) (control : Control) (seen before image : Files) → SavesListing want control seen before image
    → Agrees want seen before → Agrees want seen image

-- without a control file, beside the payload that the disk reads
abbrev pub FinishedAreSound : Type 0
FinishedAreSound = (want : Want) (seen image : Files) → IsFinished want seen image → Sound want image

abbrev pub FinishedAgree : Type 0
FinishedAgree = (want : Want) (seen image : Files) → IsFinished want seen image → Agrees want seen image

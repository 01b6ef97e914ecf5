-- What calls of the store leave of what every image has of an opened download, from the state before to the state after.
use Rattle.std.specs.Prelude.{◌≡◌, ◌⊎◌, false}
use Rattle.dl_disk.specs.Files.{Files}
use Rattle.dl_disk.specs.State.{DiskState, LeftSince}
use Rattle.control_file.specs.declared.want.Want.{Want}
use Rattle.dl_history.specs.Listings.{Listing}
use Rattle.resume_core.specs.States.{StaysSound}
use Rattle.resume_core.specs.Steps.{IsFinished}
use Rattle.durable_progress.specs.Held.{IsHeld, AreHeld, IsHeldByEither}
use Rattle.resume_core.specs.Sharing.{share_names}

-- it is held in every image
abbrev pub IsHeldNow : Want → Listing → DiskState → Type 0
IsHeldNow want listing disk = AreHeld want listing disk.seen disk.may_leave

-- whatever a crash leaves since, it is held still
abbrev pub StaysHeld : Want → Listing → DiskState → DiskState → Type 0
StaysHeld want listing old new =
    IsHeldNow want listing old → AreHeld want listing new.seen (LeftSince new old.moment)

-- .. or held by another listing
abbrev pub StaysHeldOrSaved : Want → (listing saved : Listing) → DiskState → DiskState → Type 0
StaysHeldOrSaved want listing saved old new =
    IsHeldNow want listing old
    → (image : Files) → LeftSince new old.moment image → IsHeldByEither want listing saved new.seen image

-- .. or the payload stands without its control file
abbrev pub StaysHeldOrFinished : Want → Listing → DiskState → DiskState → Type 0
StaysHeldOrFinished want listing old new =
    IsHeldNow want listing old
    → (image : Files) → LeftSince new old.moment image → IsHeld want listing new.seen image ⊎ IsFinished want new.seen image

-- what is held as the disk read it is held as it reads it now
abbrev pub HeldAreHeldStill : Want → Listing → DiskState → DiskState → Type 0
HeldAreHeldStill want listing old new = (image : Files) → IsHeld want listing old.seen image → IsHeld want listing new.seen image

-- a want that shares no name with this one stays as sound as it is
abbrev pub OthersStaySound : Want → DiskState → DiskState → Type 0
OthersStaySound want old new = (other : Want) → share_names want other ≡ false → StaysSound other old new

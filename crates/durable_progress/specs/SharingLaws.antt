-- What happens to the files of one want is nothing to a want that shares no name with it.
use Rattle.std.specs.Prelude.{◌≡◌, false}
use Rattle.dl_disk.specs.Files.{Files}
use Rattle.payload_files.specs.Payload.{HasFiles}
use Rattle.control_file.specs.declared.want.Want.{Want}
use Rattle.resume_core.specs.Resume.{Sound, Agrees, GiveSame}
use Rattle.resume_core.specs.Steps.{SameBesides, SameFor}
use Rattle.resume_core.specs.Sharing.{share_names}

-- the wants share no name, and nothing changes but files of the first
pub record ChangesBeside (want other : Want) (old new : Files) : Type 0 where
  pub apart : share_names want other ≡ false
  pub besides : SameBesides want old new

abbrev pub FilesStayBeside : Type 0
FilesStayBeside = (want other : Want) (old new : Files) → ChangesBeside want other old new → SameFor other old new

abbrev pub LengthsStayBeside : Type 0
LengthsStayBeside =
    (want other : Want) (old new : Files) → ChangesBeside want other old new
    → HasFiles other.dir other.layout old → HasFiles other.dir other.layout new

abbrev pub GiveSameBeside : Type 0
GiveSameBeside = (want other : Want) (old new : Files) → ChangesBeside want other old new → GiveSame other old new

abbrev pub SoundBeside : Type 0
SoundBeside =
    (want other : Want) (old new : Files) → ChangesBeside want other old new → Sound other old → Sound other new

-- also with what the disk reads, where that changes so too
abbrev pub AgreeBeside : Type 0
AgreeBeside =
    (want other : Want) (was now old new : Files) → ChangesBeside want other was now → ChangesBeside want other old new
    → Agrees other was old → Agrees other now new

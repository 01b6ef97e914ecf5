-- Files that get their lengths, where a control file stands, give what they gave.
use Rattle.std.specs.Prelude.{ℕ}
use Rattle.dl_disk.specs.Files.{Files}
use Rattle.payload_files.specs.Changes.{Stretches}
use Rattle.control_file.specs.declared.want.Want.{Want}
use Rattle.resume_core.specs.Found.{ControlStands, found_in}
use Rattle.resume_core.specs.Resume.{Sound, Agrees, GiveSame, ResumesPiece, ResumesBlock}
use Rattle.control_file.specs.Wants.{IsWant}

-- the files change so, where a control file stands, which is the same after it
pub record StretchedUnder (want : Want) (old new : Files) : Type 0 where
  pub want_is : IsWant want
  pub stands : ControlStands (found_in want old)
  pub files : Stretches want.dir want.layout old new

-- nothing that was given is lost
abbrev pub StretchedKeepPieces : Type 0
StretchedKeepPieces =
    (want : Want) (old new : Files) → StretchedUnder want old new → (piece : ℕ) → ResumesPiece want old piece → ResumesPiece want new piece

abbrev pub StretchedKeepBlocks : Type 0
StretchedKeepBlocks =
    (want : Want) (old new : Files) → StretchedUnder want old new → (block : ℕ) → ResumesBlock want old block → ResumesBlock want new block

-- where the image was sound, it gives the same, and is sound still
abbrev pub StretchedGiveTheSame : Type 0
StretchedGiveTheSame = (want : Want) (old new : Files) → StretchedUnder want old new → Sound want old → GiveSame want old new

abbrev pub StretchedAreSound : Type 0
StretchedAreSound = (want : Want) (old new : Files) → StretchedUnder want old new → Sound want old → Sound want new

-- and agrees with what the disk reads, where that changes so too
abbrev pub StretchedAgree : Type 0
StretchedAgree =
    (want : Want) (was now old new : Files) → StretchedUnder want old new → Stretches want.dir want.layout was now
    → Sound want old → Agrees want was old → Agrees want now new

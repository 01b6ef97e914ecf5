-- A write of a run that no image gives, whole or cut short, leaves what the images give.
use Rattle.std.specs.Prelude.{ℕ}
use Rattle.dl_disk.specs.Files.{Files}
use Rattle.dl_kinds.specs.declared.runs.Run.{Run}
use Rattle.span_map.specs.Jobs.{IsRun}
use Rattle.payload_files.specs.Payload.{HasFiles}
use Rattle.control_file.specs.declared.want.Want.{Want}
use Rattle.resume_core.specs.Resume.{Sound, Agrees, GiveSame, ResumesPiece, ResumesBlock}
use Rattle.resume_core.specs.Runs.{LacksRun, TornRun, ListsWithin}
use Rattle.control_file.specs.Wants.{IsWant}

-- a run that an image lacks is written to its files, whole or cut short
pub record TornUnder (want : Want) (run : Run) (old new : Files) : Type 0 where
  pub want_is : IsWant want
  pub run_is : IsRun want.plan run
  pub lacks : LacksRun want run old
  pub tears : TornRun want run old new

-- a sound image lists nothing past the end of a file, and nor does one whose files have their lengths
abbrev pub SoundListWithin : Type 0
SoundListWithin = (want : Want) (image : Files) → Sound want image → ListsWithin want image

abbrev pub WholeListWithin : Type 0
WholeListWithin =
    (want : Want) (image : Files) → IsWant want → HasFiles want.dir want.layout image → ListsWithin want image

-- nothing that was given is lost
abbrev pub TornKeepPieces : Type 0
TornKeepPieces =
    (want : Want) (run : Run) (old new : Files) → TornUnder want run old new
    → (piece : ℕ) → ResumesPiece want old piece → ResumesPiece want new piece

abbrev pub TornKeepBlocks : Type 0
TornKeepBlocks =
    (want : Want) (run : Run) (old new : Files) → TornUnder want run old new
    → (block : ℕ) → ResumesBlock want old block → ResumesBlock want new block

-- where nothing was listed past the end of a file, the image gives the same
abbrev pub TornGiveTheSame : Type 0
TornGiveTheSame =
    (want : Want) (run : Run) (old new : Files) → TornUnder want run old new → ListsWithin want old
    → GiveSame want old new

-- a sound image is sound still
abbrev pub TornAreSound : Type 0
TornAreSound =
    (want : Want) (run : Run) (old new : Files) → TornUnder want run old new → Sound want old → Sound want new

-- and one that agrees with what the disk reads agrees with it still, where the run is written there too
abbrev pub TornAgree : Type 0
TornAgree =
    (want : Want) (run : Run) (was now old new : Files) → TornUnder want run old new → TornRun want run was now
    → ListsWithin want old → Agrees want was old → Agrees want now new

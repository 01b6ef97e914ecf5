-- What an image gives depends on the want's files alone.
use Rattle.std.proofs.Common.{◌≡◌}
use Rattle.dl_disk.specs.Files.{Files}
use Rattle.control_file.specs.declared.want.Want.{Want}
use Rattle.resume_core.specs.Resume.{Sound, Agrees, GiveSame}
use Rattle.resume_core.specs.Steps.{SameFor}
use Rattle.resume_core.specs.Wants.{files_in}

pub give_same : (want : Want) (a b : Files) → SameFor want a b → GiveSame want a b
give_same want a b same = record {
  pieces = λ piece. rw (same.control, same.files) (λ gives. gives, λ gives. gives);
  blocks = λ block. rw (same.control, same.files) (λ gives. gives, λ gives. gives);
}

pub sound_same : (want : Want) (a b : Files) → SameFor want a b → Sound want a → Sound want b
sound_same want a b same sound = record {
  right = rw (same.control, same.files) sound.right;
  pieces = rw (same.control, same.files) sound.pieces;
  blocks = rw (same.control, same.files) sound.blocks;
}

pub agrees_same : (want : Want) (seen a b : Files) → SameFor want a b → Agrees want seen a → Agrees want seen b
agrees_same want seen a b same agrees = rw (same.control, same.files) agrees

pub agrees_seen : (want : Want) (old new image : Files) → files_in want new ≡ files_in want old
    → Agrees want old image → Agrees want new image
agrees_seen want old new image same agrees = rw same agrees

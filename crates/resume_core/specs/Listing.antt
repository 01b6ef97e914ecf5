-- What a control file of a want lists, and what an image gives that has it.
use Rattle.std.specs.Prelude.{◌≡◌, ◌↔◌, ◌⊎◌, ◌<◌, ℕ, true, slice_get, Some}
use Rattle.dl_disk.specs.Files.{Files}
use Rattle.dl_kinds.specs.Plan.{piece_of, blocks_of}
use Rattle.control_file.specs.Spelling.{IsWritableControl}
use Rattle.control_file.specs.declared.control.Control.{Control}
use Rattle.control_file.specs.declared.want.Want.{Want}
use Rattle.resume_core.specs.Found.{IsBlockInFlight, hash_bytes}
use Rattle.resume_core.specs.Resume.{ResumesPiece, ResumesBlock, HasDigest}
use Rattle.control_file.specs.Wants.{IsListedWant}
use Rattle.resume_core.specs.Wants.{files_in}

-- a control file of the want, as a writer has it; nothing of a payload is uploaded
pub record IsListingOf (want : Want) (control : Control) : Type 0 where
  pub rules : IsWritableControl control
  pub hash : control.info_hash ≡ hash_bytes want.info_hash
  pub piece_len : control.piece_len ≡ want.plan.piece_len
  pub total : control.total ≡ want.plan.total
  pub uploaded : control.uploaded ≡ 0

-- the pieces and the blocks that it lists
abbrev pub PieceListed : Control → ℕ → Type 0
PieceListed control piece = slice_get control.pieces piece ≡ Some true

abbrev pub BlockListed : Want → Control → ℕ → Type 0
BlockListed want control block =
    ((block < blocks_of want.plan.total want.plan.piece_len) × PieceListed control (piece_of want.plan.piece_len block))
    ⊎ IsBlockInFlight control want.plan.piece_len block

-- the image gives just what is listed
pub record GivesJust (want : Want) (control : Control) (image : Files) : Type 0 where
  pub pieces : (piece : ℕ) → ResumesPiece want image piece ↔ PieceListed control piece
  pub blocks : (block : ℕ) → ResumesBlock want image block ↔ BlockListed want control block

-- the listed pieces of a listed want have their digests as the disk reads them
abbrev pub MatchesListed : Want → Control → Files → Type 0
MatchesListed want control seen =
    IsListedWant want → (piece : ℕ) → PieceListed control piece → HasDigest want (files_in want seen) piece

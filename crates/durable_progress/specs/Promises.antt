-- What the saves of a download promise of every image, whenever a crash comes.
use Rattle.std.specs.Prelude.{◌≡◌, ◌⊎◌, ℕ, ◌==◌, ◌&&◌, ◌||◌, Bool, true, false, not, None, List, [], ◌∷◌}
use Rattle.std.specs.List.{list_any}
use Rattle.dl_disk.specs.Files.{Files}
use Rattle.dl_kinds.specs.Plan.{piece_of}
use Rattle.control_file.specs.Wants.{IsListedWant}
use Rattle.control_file.specs.declared.want.Want.{Want}
use Rattle.dl_history.specs.Listings.{is_block_listed}
use Rattle.dl_history.specs.OwnEvents.{OwnEvent, Saves, Settles}
use Rattle.dl_history.specs.PayloadParts.{is_verified_in}
use Rattle.resume_core.specs.Resume.{ResumesPiece, ResumesBlock, HasDigest}
use Rattle.resume_core.specs.Wants.{control_name, files_in}

-- a save lists the piece
abbrev pub is_piece_saved : List OwnEvent → ℕ → Bool
is_piece_saved [] p = false
is_piece_saved (Saves now ∷ before) p = is_verified_in before p || is_piece_saved before p
is_piece_saved (e ∷ before) p = is_piece_saved before p

-- .. or the download completed with it verified
abbrev pub is_piece_promised : Bool → List OwnEvent → ℕ → Bool
is_piece_promised complete own p = is_piece_saved own p || complete && is_verified_in own p

-- the event finds the piece wrong
abbrev pub finds_wrong : ℕ → OwnEvent → Bool
finds_wrong p (Settles piece right giver) = piece == p && not right
finds_wrong p e = false

-- the last save lists the block, and its piece wasn't found wrong since
abbrev pub is_block_saved : ℕ → List OwnEvent → ℕ → Bool
is_block_saved len [] b = false
is_block_saved len (Saves now ∷ before) b = is_block_listed len before b
is_block_saved len (e ∷ before) b = not (finds_wrong (piece_of len b) e) && is_block_saved len before b

-- .. nor in these later events
abbrev pub is_block_promised : ℕ → (later own : List OwnEvent) → ℕ → Bool
is_block_promised len later own b = not (list_any (finds_wrong (piece_of len b)) later) && is_block_saved len own b

-- An opening from the image gives what the saves promise that came before these later events. Of a want that was opened
-- again since, the pieces count alone.
pub record GivesPromised (want : Want) (later own : List OwnEvent) (complete again : Bool) (image : Files) : Type 0 where
  pub pieces : (p : ℕ) → is_piece_promised complete own p ≡ true → ResumesPiece want image p
  pub blocks : again ≡ false → (b : ℕ) → is_block_promised want.plan.piece_len later own b ≡ true
      → ResumesBlock want image b

-- The wanted pieces were all verified, and the whole payload stands as the disk reads it, without a control file. What is
-- promised of a listed want has its digests.
pub record StandsWhole (want : Want) (own : List OwnEvent) (complete : Bool) (seen image : Files) : Type 0 where
  pub gone : image (control_name want) ≡ None
  pub files : files_in want image ≡ files_in want seen
  pub right : IsListedWant want → (p : ℕ) → is_piece_promised complete own p ≡ true
      → HasDigest want (files_in want image) p

-- What is promised of a download holds in an image in either of two ways. `verified` tells whether the wanted pieces are,
-- its own or those of one of the same want that was opened later.
abbrev pub HoldsPromised : Want → (later own : List OwnEvent) → (complete again verified : Bool) → Files → Files → Type 0
HoldsPromised want later own complete again verified seen image =
    GivesPromised want later own complete again image
    ⊎ ((verified ≡ true) × StandsWhole want own complete seen image)

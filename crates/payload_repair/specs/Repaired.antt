-- What a repair promises of a file.
use Rattle.std.specs.Prelude.{◌≡◌, ◌<◌, ◌⊎◌, ℕ, false, List, IsTrue}
use Rattle.dl_disk.specs.Files.{Files, file_bytes}
use Rattle.dl_disk.specs.State.{DiskState, LeftSince}
use Rattle.payload_repair.specs.Pieces.{HashedFile, file_pieces, is_right}
use Rattle.payload_repair.specs.Repairs.{falls_short}

-- After Ok each piece is right that was right in the file or in the copy, and where the file was neither short nor
-- missing no other is.
pub record IsRepaired (file : HashedFile) (own copy new : List ℕ) : Type 0 where
  pub right : (piece : ℕ) → piece < file_pieces file → IsTrue (is_right file own piece) → IsTrue (is_right file new piece)
  pub copied : (piece : ℕ) → piece < file_pieces file → IsTrue (is_right file copy piece) → IsTrue (is_right file new piece)
  pub no_other : falls_short file own ≡ false → (piece : ℕ) → piece < file_pieces file → IsTrue (is_right file new piece)
      → IsTrue (is_right file own piece) ⊎ IsTrue (is_right file copy piece)

-- a piece that is right in whatever a crash leaves of the file before is so in whatever a crash at any moment since leaves
abbrev pub KeepsRight : HashedFile → List ℕ → DiskState → DiskState → Type 0
KeepsRight file name old new =
    (piece : ℕ) → piece < file_pieces file
    → ((image : Files) → old.may_leave image → IsTrue (is_right file (file_bytes (image name)) piece))
    → (image : Files) → LeftSince new old.moment image → IsTrue (is_right file (file_bytes (image name)) piece)

-- whatever a crash leaves has each piece right that the disk reads right
abbrev pub LastsRight : HashedFile → List ℕ → DiskState → Type 0
LastsRight file name disk =
    (piece : ℕ) → piece < file_pieces file → IsTrue (is_right file (file_bytes (disk.seen name)) piece)
    → (image : Files) → disk.may_leave image → IsTrue (is_right file (file_bytes (image name)) piece)

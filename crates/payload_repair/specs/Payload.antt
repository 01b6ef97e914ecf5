-- The files of a version 2 torrent in a folder, and their copies in another.
use Rattle.std.specs.Prelude.{◌≡◌, ◌≢◌, ◌<◌, ◌≤◌, ℕ, List, length, Option, Some, IfSome, Contains, slice_get, option_map, IsTrue}
use Rattle.dl_disk.specs.Files.{Files, IsSame, MayMake, file_bytes}
use Rattle.dl_disk.specs.State.{DiskState}
use Rattle.meta_v2.specs.declared.files.FileV2.{FileV2}
use Rattle.payload_files.specs.Names.{folder_of, name_of}
use Rattle.payload_repair.specs.Mends.{Mends}
use Rattle.payload_repair.specs.Pieces.{HashedFile, file_pieces}
use Rattle.payload_repair.specs.Repaired.{IsRepaired}
use Rattle.payload_repair.specs.Repairs.{falls_short, is_mended, IsWrittenUpTo, MendsPieces, counts_upto}
use Rattle.payload_repair.specs.StepsBy.{StepsBy}
use Rattle.payload_repair.specs.declared.counts.Counts.{Counts}

-- a file as its pieces
abbrev pub hashed_file : ℕ → FileV2 → HashedFile
hashed_file piece_len file = record { len = file.len; piece_len = piece_len; hashes = file.layer }

-- what stands of a file in a folder; a missing one has no bytes
abbrev pub bytes_in : List ℕ → FileV2 → Files → List ℕ
bytes_in dir file seen = file_bytes (seen (name_of dir file.path))

-- what stands of its copy; none where there is no other folder
abbrev pub bytes_of_copy : Option (List ℕ) → FileV2 → Files → List ℕ
bytes_of_copy copy file seen = file_bytes (option_map (λ folder. bytes_in folder file seen) copy)

-- the copy of a file is another file
abbrev pub CopyIsApart : List ℕ → Option (List ℕ) → FileV2 → Type 0
CopyIsApart dir copy file = IfSome copy (λ folder. name_of folder file.path ≢ name_of dir file.path)

-- the two folders share no file
abbrev pub ShareNoFile : List ℕ → Option (List ℕ) → List FileV2 → Type 0
ShareNoFile dir copy files =
    IfSome copy (λ folder. (j k : ℕ) (f g : FileV2) → slice_get files j ≡ Some f → slice_get files k ≡ Some g
    → name_of folder f.path ≢ name_of dir g.path)

-- files of different numbers have different names
abbrev pub HaveOtherNames : List ℕ → List FileV2 → Type 0
HaveOtherNames dir files =
    (j k : ℕ) (f g : FileV2) → slice_get files j ≡ Some f → slice_get files k ≡ Some g → j ≢ k
    → name_of dir f.path ≢ name_of dir g.path

-- what is counted of a file
abbrev pub file_counts : ℕ → List ℕ → Option (List ℕ) → Files → FileV2 → Counts
file_counts piece_len dir copy seen file =
    counts_upto (hashed_file piece_len file) (bytes_in dir file seen) (bytes_of_copy copy file seen)
    (file_pieces (hashed_file piece_len file))

-- the bytes of a file that are written
abbrev pub IsWrittenIn : ℕ → List ℕ → Option (List ℕ) → Files → FileV2 → ℕ → Type 0
IsWrittenIn piece_len dir copy seen file =
    IsWrittenUpTo (hashed_file piece_len file) (bytes_in dir file seen) (bytes_of_copy copy file seen)
    (file_pieces (hashed_file piece_len file))

-- the copy repairs a piece of the file
abbrev pub IsMendedIn : ℕ → List ℕ → Option (List ℕ) → Files → FileV2 → ℕ → Type 0
IsMendedIn piece_len dir copy seen file piece =
    IsTrue (is_mended (hashed_file piece_len file) (bytes_in dir file seen) (bytes_of_copy copy file seen) piece)

-- What the repair may make of a file, whole or cut short: nothing else where no piece of it is repaired.
pub record MendsFileV2 (piece_len : ℕ) (dir : List ℕ) (copy : Option (List ℕ)) (seen : Files) (file : FileV2) (old new : Option (List ℕ)) : Type 0 where
  pub bytes : MayMake (Mends file.len (falls_short (hashed_file piece_len file) (bytes_in dir file seen))
      (IsWrittenIn piece_len dir copy seen file)) old new
  pub spared : ((piece : ℕ) → piece < file_pieces (hashed_file piece_len file) → ¬ IsMendedIn piece_len dir copy seen file piece)
      → new ≡ old

-- whether it is done or fails: no more of a file is changed than the blocks that are written, and nothing without a copy
pub record ChangesFile (piece_len : ℕ) (dir : List ℕ) (copy : Option (List ℕ)) (file : FileV2) (old new : DiskState) : Type 0 where
  pub steps : StepsBy (MendsPieces (name_of dir file.path) (hashed_file piece_len file) (bytes_in dir file old.seen)
      (bytes_of_copy copy file old.seen) (file_pieces (hashed_file piece_len file))) old new
  pub spared : ((piece : ℕ) → piece < file_pieces (hashed_file piece_len file)
      → ¬ IsTrue (is_mended (hashed_file piece_len file) (bytes_in dir file old.seen) (bytes_of_copy copy file old.seen) piece))
      → StepsBy IsSame old new

-- the file has its length, and its folder was made where it was short or missing
pub record HasItsLength (piece_len : ℕ) (dir : List ℕ) (file : FileV2) (old : Files) (new : DiskState) : Type 0 where
  pub len : file.len ≤ length (bytes_in dir file new.seen)
  pub made : IsTrue (falls_short (hashed_file piece_len file) (bytes_in dir file old))
      → IfSome (folder_of dir file.path) (Contains new.folders)

-- after Ok, of a file
pub record FileIsRepaired (piece_len : ℕ) (dir : List ℕ) (copy : Option (List ℕ)) (old : Files) (new : DiskState) (file : FileV2) : Type 0 where
  pub pieces : IsRepaired (hashed_file piece_len file) (bytes_in dir file old) (bytes_of_copy copy file old) (bytes_in dir file new.seen)
  pub fitted : (piece : ℕ) → piece < file_pieces (hashed_file piece_len file) → IsMendedIn piece_len dir copy old file piece
      → HasItsLength piece_len dir file old new

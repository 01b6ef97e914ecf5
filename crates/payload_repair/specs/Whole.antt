-- What the repair of a payload's files does, and what it counts.
use Rattle.std.specs.Prelude.{◌≡◌, ◌≢◌, ◌<◌, ℕ, List, None, Some, Option, slice_get, sum_by, IsSome}
use Rattle.dl_disk.specs.Files.{Files, IsSame}
use Rattle.dl_disk.specs.State.{DiskState, IsDurable}
use Rattle.meta_v2.specs.declared.files.FileV2.{FileV2}
use Rattle.payload_files.specs.Names.{name_of}
use Rattle.payload_repair.specs.Payload.{hashed_file, FileIsRepaired, MendsFileV2, file_counts}
use Rattle.payload_repair.specs.Repaired.{KeepsRight, LastsRight}
use Rattle.payload_repair.specs.StepsBy.{StepsBy}
use Rattle.payload_repair.specs.declared.counts.Counts.{Counts}

-- Of the first files no more is changed than the blocks that are written, whole or cut short, and beside them nothing.
pub record MendsFiles (piece_len : ℕ) (dir : List ℕ) (copy : Option (List ℕ)) (files : List FileV2) (seen : Files) (count : ℕ) (old new : Files) : Type 0 where
  pub others : (name : List ℕ) → ((k : ℕ) (file : FileV2) → k < count → slice_get files k ≡ Some file → name_of dir file.path ≢ name)
      → new name ≡ old name
  pub each : (k : ℕ) (file : FileV2) → k < count → slice_get files k ≡ Some file
      → MendsFileV2 piece_len dir copy seen file (old (name_of dir file.path)) (new (name_of dir file.path))

-- whether it is done or fails, in what is read and at each moment in what a crash might leave; without a copy nothing
-- is written
pub record ChangesFiles (piece_len : ℕ) (dir : List ℕ) (copy : Option (List ℕ)) (files : List FileV2) (count : ℕ) (old new : DiskState) : Type 0 where
  pub steps : StepsBy (MendsFiles piece_len dir copy files old.seen count) old new
  pub spared : copy ≡ None → StepsBy IsSame old new

-- after Ok each of the first files is repaired
abbrev pub FilesAreRepaired : ℕ → List ℕ → Option (List ℕ) → List FileV2 → ℕ → Files → DiskState → Type 0
FilesAreRepaired piece_len dir copy files count old new =
    (k : ℕ) (file : FileV2) → k < count → slice_get files k ≡ Some file → FileIsRepaired piece_len dir copy old new file

-- what is counted of files
abbrev pub counts_of_files : ℕ → List ℕ → Option (List ℕ) → Files → List FileV2 → Counts
counts_of_files piece_len dir copy seen files = record {
  pieces = sum_by (λ file. (file_counts piece_len dir copy seen file).pieces) files;
  right = sum_by (λ file. (file_counts piece_len dir copy seen file).right) files;
  repaired = sum_by (λ file. (file_counts piece_len dir copy seen file).repaired) files;
  blocks = sum_by (λ file. (file_counts piece_len dir copy seen file).blocks) files;
}

-- in whatever a crash at any moment since leaves, each piece is right that was right in whatever a crash left before
abbrev pub KeepsAllRight : ℕ → List ℕ → List FileV2 → DiskState → DiskState → Type 0
KeepsAllRight piece_len dir files old new =
    (k : ℕ) (file : FileV2) → slice_get files k ≡ Some file → KeepsRight (hashed_file piece_len file) (name_of dir file.path) old new

-- whatever a crash leaves has each piece right that the disk reads right
abbrev pub AllLast : ℕ → List ℕ → List FileV2 → DiskState → Type 0
AllLast piece_len dir files disk =
    (k : ℕ) (file : FileV2) → slice_get files k ≡ Some file → LastsRight (hashed_file piece_len file) (name_of dir file.path) disk

-- each file that is there lasts as the disk reads it
abbrev pub AreSynced : List ℕ → List FileV2 → DiskState → Type 0
AreSynced dir files disk =
    (k : ℕ) (file : FileV2) → slice_get files k ≡ Some file → IsSome (disk.seen (name_of dir file.path))
    → IsDurable (name_of dir file.path) disk

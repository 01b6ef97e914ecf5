-- What a repair of a payload promises.
use Rattle.std.specs.Prelude.{ℕ, List, length, Option, option_map}
use Rattle.std.specs.Borrow.{Bor}
use Rattle.dl_disk.specs.Files.{Files}
use Rattle.dl_disk.specs.State.{DiskState}
use Rattle.meta_v2.specs.declared.files.FileV2.{FileV2}
use Rattle.meta_v2.specs.declared.meta.MetaV2.{MetaV2}
use Rattle.payload_repair.specs.Payload.{ShareNoFile}
use Rattle.payload_repair.specs.Whole.{AllLast, ChangesFiles, FilesAreRepaired, KeepsAllRight, counts_of_files}
use Rattle.payload_repair.specs.declared.counts.Counts.{Counts}

-- what is repaired: files in pieces of this length, in a folder, and the folder of their copies, if there is one
pub record RepairTask : Type 0 where
  pub piece_len : ℕ
  pub files : List FileV2
  pub dir : List ℕ
  pub copy : Option (List ℕ)

abbrev pub task_of : MetaV2 → List ℕ → Option (Bor (List ℕ)) → RepairTask
task_of meta dir copy = record {
  piece_len = meta.piece_len;
  files = meta.files;
  dir = dir;
  copy = option_map (λ folder. folder.now) copy;
}

-- the two folders share no file
abbrev pub SharesNoFile : RepairTask → Type 0
SharesNoFile task = ShareNoFile task.dir task.copy task.files

-- what is counted, by what stands before
abbrev pub counts_by : RepairTask → Files → Counts
counts_by task seen = counts_of_files task.piece_len task.dir task.copy seen task.files

-- Each piece is right that was right in either folder, and in a file that was neither short nor missing no other. A file
-- of which a piece was repaired has its length, and its folder was made where it was short or missing.
abbrev pub RepairsAll : RepairTask → DiskState → DiskState → Type 0
RepairsAll task old new =
    FilesAreRepaired task.piece_len task.dir task.copy task.files (length task.files) old.seen new

-- A byte changes only in a block that is written: one whose leaf differs, or of a file that was short or missing, in a
-- piece that was wrong and is right in the copy. Without a copy nothing is written.
abbrev pub WritesNoMore : RepairTask → DiskState → DiskState → Type 0
WritesNoMore task old new =
    ChangesFiles task.piece_len task.dir task.copy task.files (length task.files) old new

-- a piece that was right in every image is right in every image of each moment since
abbrev pub KeepsWhatIsRight : RepairTask → DiskState → DiskState → Type 0
KeepsWhatIsRight task old new = KeepsAllRight task.piece_len task.dir task.files old new

-- each right piece is right in every image
abbrev pub LastsAll : RepairTask → DiskState → Type 0
LastsAll task disk = AllLast task.piece_len task.dir task.files disk

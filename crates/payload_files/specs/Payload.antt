-- A payload on a disk: the bytes of its files, one file after the other, in a folder.
use Rattle.std.specs.Prelude.{◌≡◌, ℕ, ◌+◌, List, length, take, map, Option, Some, IsSomeAnd, All}
use Rattle.std.specs.List.{concat}
use Rattle.dl_disk.specs.Files.{Files, file_bytes, resized}
use Rattle.dl_disk.specs.State.{DiskState}
use Rattle.span_map.specs.Layout.{total_of}
use Rattle.span_map.specs.Slices.{Fills}
use Rattle.span_map.specs.declared.files.FileLen.{FileLen}
use Rattle.span_map.specs.declared.files.Part.{Part}
use Rattle.payload_files.specs.Names.{name_of}

-- a file stands, with this length
abbrev pub HasLength : ℕ → Option (List ℕ) → Type 0
HasLength len file = IsSomeAnd file (λ bytes. length bytes ≡ len)

-- each file stands under its name, with its length
abbrev pub HasFiles : List ℕ → List FileLen → Files → Type 0
HasFiles dir files seen = All (λ file. HasLength file.len (seen (name_of dir file.path))) files

-- what the files hold; a missing one holds nothing
abbrev pub contents_in : List ℕ → List FileLen → Files → List (List ℕ)
contents_in dir files seen = map (λ file. file_bytes (seen (name_of dir file.path))) files

-- the payload
abbrev pub payload_in : List ℕ → List FileLen → Files → List ℕ
payload_in dir files seen = concat (contents_in dir files seen)

-- where a part of a file begins in the payload
abbrev pub part_start : List FileLen → Part → ℕ
part_start files part = total_of (take part.file files) + part.at

-- both have the same under each file's name
abbrev pub AreSame : List ℕ → List FileLen → Files → Files → Type 0
AreSame dir files a b = All (λ file. a (name_of dir file.path) ≡ b (name_of dir file.path)) files

-- each file is cut to its length, or lengthened by zeros; a missing one is made
abbrev pub AreResized : List ℕ → List FileLen → Files → Files → Type 0
AreResized dir files old new =
    All (λ file. new (name_of dir file.path) ≡ Some (resized (file_bytes (old (name_of dir file.path))) file.len)) files

-- whatever a crash leaves, it has of each file what the disk reads
abbrev pub AreDurable : List ℕ → List FileLen → DiskState → Type 0
AreDurable dir files disk = (image : Files) → disk.may_leave image → AreSame dir files image disk.seen

-- where the files have their lengths, so do their contents, and the payload has the length of the layout
abbrev pub FilesFill : Type 0
FilesFill =
    (dir : List ℕ) (files : List FileLen) (seen : Files) → HasFiles dir files seen
    → Fills files (contents_in dir files seen) × (length (payload_in dir files seen) ≡ total_of files)

-- the same files hold the same payload
abbrev pub SameFilesHold : Type 0
SameFilesHold =
    (dir : List ℕ) (files : List FileLen) (old new : Files) → AreSame dir files new old → HasFiles dir files old
    → HasFiles dir files new × (payload_in dir files new ≡ payload_in dir files old)

-- What is read of the files of a payload.
use Rattle.std.specs.Prelude.{◌≡◌, ◌≤◌, ℕ, ◌+◌, List, [], length, All}
use Rattle.std.specs.List.{slice_index_or}
use Rattle.dl_kinds.specs.Lists.{part_at}
use Rattle.dl_disk.specs.Calls.{Stays}
use Rattle.dl_disk.specs.Files.{Files, IsSame}
use Rattle.dl_disk.specs.Passes.{Passes}
use Rattle.dl_disk.specs.State.{DiskState}
use Rattle.span_map.specs.Slices.{slice_of, part_bytes}
use Rattle.span_map.specs.declared.files.FileLen.{FileLen}
use Rattle.span_map.specs.declared.files.Part.{Part}
use Rattle.payload_files.specs.Names.{IsOther}
use Rattle.payload_files.specs.Payload.{HasFiles, payload_in}

-- The calls from old to new changed nothing, and read no file but these.
pub record ReadsOnly (dir : List ℕ) (files : List FileLen) (old new : DiskState) : Type 0 where
  pub stays : Stays old new
  pub passes : Passes IsSame old new
  pub others : (name : List ℕ) → IsOther dir files name → new.reads name ≡ old.reads name
  pub folders : new.folders ≡ old.folders

-- what the file of a part holds
abbrev pub part_content : List (List ℕ) → Part → List ℕ
part_content contents part = slice_index_or contents part.file []

-- the file has all of the part
abbrev pub HasPart : List (List ℕ) → Part → Type 0
HasPart contents part = part.at + part.len ≤ length (part_content contents part)

-- the file has all of the part, and these are its bytes
pub record ReadsPart (contents : List (List ℕ)) (part : Part) (read : List ℕ) : Type 0 where
  pub within : HasPart contents part
  pub bytes : read ≡ part_at (part_content contents part) part.at part.len

-- The files have all of the parts of a slice, and these are its bytes. Files that have no part of it may be missing.
pub record ReadsParts (files : List FileLen) (contents : List (List ℕ)) (at : ℕ) (read : List ℕ) : Type 0 where
  pub within : All (HasPart contents) (slice_of files at (length read))
  pub bytes : read ≡ part_bytes contents (slice_of files at (length read))

-- where the files have their lengths, these are the bytes of the payload at this place
abbrev pub ReadsSlice : List ℕ → List FileLen → ℕ → List ℕ → Files → Type 0
ReadsSlice dir files at read seen =
    HasFiles dir files seen → read ≡ part_at (payload_in dir files seen) at (length read)

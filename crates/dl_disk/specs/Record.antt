-- The calls that a disk in memory had: what they make of its files, and what they leave to a crash.
use Rattle.std.specs.Prelude.{◌≡◌, ℕ, ◌+◌, Bool, true, false, ◌&&◌, not, nat_le, List, [], ◌∷◌, length, take, slice_get, reverse, map, Option, Some, None, is_some, IsTrue, if◌then◌else◌}
use Rattle.std.specs.List.{filter}
use Rattle.std.specs.Map.{update}
use Rattle.std.specs.Str.{bytes_eq}
use Rattle.dl_disk.specs.Files.{Files, file_bytes, MayMake, Changes, Removes, Moved, MayBe}
use Rattle.dl_disk.specs.Edit.{fits, edited, MayEdit}
use Rattle.dl_disk.specs.declared.record.Action.{Action}
use Rattle.dl_disk.specs.declared.record.Action.TheVariants.{Read, Change, Sync, MakeDir, Replace, Remove}
use Rattle.dl_disk.specs.declared.record.Call.{Call}

-- whether a file has so many bytes at this place
abbrev pub reaches : Option (List ℕ) → ℕ → ℕ → Bool
reaches None at len = false
reaches (Some bytes) at len = nat_le (at + len) (length bytes)

-- whether this can be done on these files
abbrev pub can_do : Files → List ℕ → Action → Bool
can_do files name (Read at len) = reaches (files name) at len
can_do files name (Change edit) = fits edit
can_do files name (Replace to) = is_some (files name)
can_do files name Remove = is_some (files name)
can_do files name action = true

-- the files with the file of one name under another
abbrev pub moved : Files → List ℕ → List ℕ → Files
moved files from to other = if bytes_eq to other then files from else if bytes_eq from other then None else files other

-- what it makes of them
abbrev pub changed : Files → List ℕ → Action → Files
changed files name (Change edit) = update bytes_eq files name (Some (edited edit (file_bytes (files name))))
changed files name (Replace to) = moved files name to
changed files name Remove = update bytes_eq files name None
changed files name action = files

-- the files after these calls, of which the newest is the first
abbrev pub files_after : Files → List Call → Files
files_after start [] = start
files_after start (call ∷ calls) =
    if call.done then changed (files_after start calls) call.name call.action else files_after start calls

-- what a failed try of a step leaves to a crash: the step is taken or not where the file that it needs is there
abbrev pub LeavesTried : Option (List ℕ) → (Files → Files → Type 0) → (Files → Type 0) → Files → Type 0
LeavesTried None step before image = before image
LeavesTried (Some file) step before image = (old : Files) × before old × MayBe step old image

-- What a call leaves to a crash, from what it might have left before; the files are those before the call. A change may
-- be cut short, what was synced stays, and a file that was moved or removed with Ok is so for good. A file that isn't
-- there is neither moved nor removed.
abbrev pub Leaves : Files → (Files → Type 0) → List ℕ → Action → Bool → Files → Type 0
Leaves files before name (Change edit) done image = (old : Files) × before old × Changes name (MayMake (MayEdit edit)) old image
Leaves files before name (Replace to) true image = (old : Files) × before old × Moved name to old image
Leaves files before name (Replace to) false image = LeavesTried (files name) (Moved name to) before image
Leaves files before name Remove true image = (old : Files) × before old × Removes name old image
Leaves files before name Remove false image = LeavesTried (files name) (Removes name) before image
Leaves files before name Sync true image = before image × (image name ≡ files name)
Leaves files before name action done image = before image

-- what a crash after these calls may leave, where all was durable before them
abbrev pub IsLeftAfter : Files → List Call → Files → Type 0
IsLeftAfter start [] image = (name : List ℕ) → image name ≡ start name
IsLeftAfter start (call ∷ calls) image = Leaves (files_after start calls) (IsLeftAfter start calls) call.name call.action call.done image

-- what a read gives after these calls, of which the oldest is the first
abbrev pub reading_after : Files → List Call → Files
reading_after start calls = files_after start (reverse calls)

-- what a crash may leave after them
abbrev pub IsImageAfter : Files → List Call → Files → Type 0
IsImageAfter start calls = IsLeftAfter start (reverse calls)

-- whether a call reads this file
abbrev pub reads : List ℕ → Call → Bool
reads name call = is_read call.action && bytes_eq call.name name
  where
    is_read : Action → Bool
    is_read (Read at len) = true
    is_read action = false

-- whether a folder is asked for
abbrev pub is_make_dir : Action → Bool
is_make_dir MakeDir = true
is_make_dir action = false

-- whether a call made a folder
abbrev pub makes_folder : Call → Bool
makes_folder call = is_make_dir call.action && call.done

-- the folders that calls made, the newest first
abbrev pub folders_made : List Call → List (List ℕ)
folders_made calls = map (λ call. call.name) (filter makes_folder (reverse calls))

-- whether a call failed
abbrev pub failed : Call → Bool
failed call = not call.done

-- each call that was done could be done on the files after those before it
abbrev pub WerePossible : Files → List Call → Type 0
WerePossible start calls =
    (place : ℕ) (call : Call) → slice_get calls place ≡ Some call → IsTrue call.done
    → IsTrue (can_do (reading_after start (take place calls)) call.name call.action)

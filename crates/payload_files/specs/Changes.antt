-- What the calls on the files of a payload change on the disk, and what a crash then may leave.
use Rattle.std.specs.Prelude.{◌≡◌, ◌≤◌, ◌<◌, ◌⊎◌, ℕ, ◌+◌, max, List, length, take, slice_get, Some, All}
use Rattle.dl_kinds.specs.Lists.{part_at}
use Rattle.dl_disk.specs.Files.{Files, Follows, MayMake, Stretched, replaced}
use Rattle.dl_disk.specs.Passes.{Performs}
use Rattle.dl_disk.specs.State.{DiskState}
use Rattle.span_map.specs.Layout.{total_of}
use Rattle.span_map.specs.declared.files.FileLen.{FileLen}
use Rattle.payload_files.specs.Names.{name_of, IsOther}
use Rattle.payload_files.specs.Payload.{HasFiles, HasLength, payload_in}

-- what stands under a name that is no file's is the same
abbrev pub AreSameBeside : List ℕ → List FileLen → Files → Files → Type 0
AreSameBeside dir files old new = (name : List ℕ) → IsOther dir files name → new name ≡ old name

-- It stays, in what the disk reads and in what a crash may leave: beside the files each image now is an image before.
pub record KeepsOthers (dir : List ℕ) (files : List FileLen) (old new : DiskState) : Type 0 where
  pub seen : AreSameBeside dir files old.seen new.seen
  pub images : Follows (AreSameBeside dir files) old.may_leave new.may_leave

-- the same but for the bytes from this place on, so many
pub record SameOutside (at len : ℕ) (old new : List ℕ) : Type 0 where
  pub size : length new ≡ length old
  pub parts : (from count : ℕ) → (from + count ≤ at) ⊎ (at + len ≤ from) → part_at new from count ≡ part_at old from count

-- A file of `len` bytes which begins at `start` in the payload, after n bytes of the payload were written at `at`, or
-- part of them. What it had outside of them it has still, it isn't shorter, and it didn't grow past its length.
pub record TornFile (start len at n : ℕ) (old new : List ℕ) : Type 0 where
  pub same : (i : ℕ) → i < length old → (start + i < at) ⊎ (at + n ≤ start + i) → slice_get new i ≡ slice_get old i
  pub no_shorter : length old ≤ length new
  pub no_longer : length new ≤ max (length old) len

-- each file after such a write; one that the write makes may be absent
abbrev pub AreTorn : List ℕ → List FileLen → ℕ → ℕ → Files → Files → Type 0
AreTorn dir files at n old new =
    (k : ℕ) (file : FileLen) → slice_get files k ≡ Some file
    → MayMake (TornFile (total_of (take k files)) file.len at n) (old (name_of dir file.path)) (new (name_of dir file.path))

-- A write of n bytes of the payload that is cut short. Where the files had their lengths they have them still, and the
-- payload is the same outside of the range.
pub record TornSlice (dir : List ℕ) (files : List FileLen) (at n : ℕ) (old new : Files) : Type 0 where
  pub others : AreSameBeside dir files old new
  pub each : AreTorn dir files at n old new
  pub standing : HasFiles dir files old → HasFiles dir files new
  pub outside : HasFiles dir files old → SameOutside at n (payload_in dir files old) (payload_in dir files new)

-- The files get their lengths, or some of them some length on the way: what they had up to both lengths they have still.
pub record Stretches (dir : List ℕ) (files : List FileLen) (old new : Files) : Type 0 where
  pub others : AreSameBeside dir files old new
  pub each : All (λ file. MayMake (Stretched file.len) (old (name_of dir file.path)) (new (name_of dir file.path))) files

-- this file stays as it is
abbrev pub SameAt : List ℕ → Files → Files → Type 0
SameAt name old new = new name ≡ old name

-- a file that stands with this length is left alone, in what is read and at each moment in what a crash may leave
abbrev pub LeavesFit : List ℕ → ℕ → DiskState → DiskState → Type 0
LeavesFit name len old new = HasLength len (old.seen name) → Performs (SameAt name) old new

-- so is each of these files
abbrev pub LeavesFitting : List ℕ → List FileLen → DiskState → DiskState → Type 0
LeavesFitting dir files old new = All (λ file. LeavesFit (name_of dir file.path) file.len old new) files

-- where the files had their lengths, the payload has these bytes at this place, and is the same elsewhere
abbrev pub WritesSlice : List ℕ → List FileLen → ℕ → List ℕ → Files → Files → Type 0
WritesSlice dir files at bytes old new =
    HasFiles dir files old → payload_in dir files new ≡ replaced (payload_in dir files old) at bytes

-- where the files had their lengths, these bytes of the payload stand now
abbrev pub HoldsSlice : List ℕ → List FileLen → ℕ → List ℕ → Files → Files → Type 0
HoldsSlice dir files at bytes old new =
    HasFiles dir files old → part_at (payload_in dir files new) at (length bytes) ≡ bytes

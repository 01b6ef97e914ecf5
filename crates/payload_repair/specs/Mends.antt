-- What writes may make of the bytes of a file.
use Rattle.std.specs.Prelude.{◌≡◌, ℕ, ◌+◌, ◌<◌, ◌≤◌, max, min, Bool, true, false, if◌then◌else◌, List, length, slice_get}
use Rattle.dl_disk.specs.Files.{Files, Changes, MayMake}
use Rattle.payload_repair.specs.Blocks.{IsInBlocks}
use Rattle.payload_repair.specs.declared.job.RepairJob.{RepairJob}

-- What writes may make of bytes, whole or cut short, that are to be so long: no others than these change, and there are
-- no fewer, but for those past the end where the file was short.
pub record Mends (len : ℕ) (short : Bool) (IsTouched : ℕ → Type 0) (old new : List ℕ) : Type 0 where
  pub same : (i : ℕ) → i < length old → i < length new → ¬ IsTouched i → slice_get new i ≡ slice_get old i
  pub no_shorter : (if short then min (length old) len else length old) ≤ length new
  pub no_longer : length new ≤ max (length old) len

-- writes of the blocks at these places of so many bytes from here on, whole or cut short
abbrev pub MendsBlocks : List ℕ → ℕ → ℕ → List ℕ → Files → Files → Type 0
MendsBlocks name start len places =
    Changes name (MayMake (Mends (start + len) false (IsInBlocks start (start + len) places)))

-- a short file gets its length, or some length on the way, and no byte that it has changes
abbrev pub LengthensFile : List ℕ → ℕ → Files → Files → Type 0
LengthensFile name len = Changes name (MayMake (Mends len true (λ i. ⊥)))

-- writes of the blocks at these places, from one byte of the file to another
abbrev pub MendsPlaces : RepairJob → Bool → ℕ → ℕ → List ℕ → Files → Files → Type 0
MendsPlaces job short start end places =
    Changes job.name.now (MayMake (Mends job.plan.total short (IsInBlocks start end places)))

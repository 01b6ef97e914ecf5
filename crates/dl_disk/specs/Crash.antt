-- What a crash leaves of a disk in memory, by a choice for each change that it may lose.
use Rattle.std.specs.Prelude.{◌≡◌, ℕ, ◌+◌, ◌-◌, Bool, false, ◌&&◌, ◌||◌, not, ◌==◌, List, [], ◌∷◌, ◌++◌, length, take, drop, replicate, Option, Some, None, is_some, get_or, if◌then◌else◌}
use Rattle.std.specs.Str.{bytes_eq}
use Rattle.dl_disk.specs.Files.{Files, file_bytes, replaced}
use Rattle.dl_disk.specs.Edit.{fits, edited}
use Rattle.dl_disk.specs.Contents.{files_of}
use Rattle.dl_disk.specs.MemDisk.{calls_of, failed_calls, failing_calls, next_call, IsFresh}
use Rattle.dl_disk.specs.Record.{moved}
use Rattle.dl_disk.specs.declared.edits.Edit.{Edit}
use Rattle.dl_disk.specs.declared.edits.Edit.TheVariants.{Write, Resize}
use Rattle.dl_disk.specs.declared.record.Action.{Action}
use Rattle.dl_disk.specs.declared.record.Action.TheVariants.{Change, Sync, Replace, Remove}
use Rattle.dl_disk.specs.declared.record.Call.{Call}
use Rattle.dl_disk.specs.declared.memory.MemDisk.{MemDisk}

-- whether what stands under a name before a call that was done is made to last by it, or later under the name that it has
-- then
abbrev pub lasts_from : List ℕ → List ℕ → Action → (List ℕ → Bool) → Bool
lasts_from name at Sync lasts = bytes_eq at name || lasts name
lasts_from name at (Replace to) lasts = if bytes_eq at name then lasts to else if bytes_eq to name then false else lasts name
lasts_from name at Remove lasts = if bytes_eq at name then false else lasts name
lasts_from name at action lasts = lasts name

-- whether what stands under a name before these calls is made to last by one of them
abbrev pub lasts_by : List ℕ → List Call → Bool
lasts_by name [] = false
lasts_by name (call ∷ later) =
    if call.done then lasts_from name call.name call.action (λ other. lasts_by other later) else lasts_by name later

-- Whether a crash may lose what a call changed of these files, where these calls came after it, or may find it done
-- though it failed.
abbrev pub may_lose : Files → List ℕ → Action → Bool → List Call → Bool
may_lose files name (Change edit) done later = not (lasts_by name later)
may_lose files name (Replace to) done later = not done && is_some (files name) && not (lasts_by name later || lasts_by to later)
may_lose files name Remove done later = not done && is_some (files name) && not (lasts_by name later)
may_lose files name action done later = false

abbrev pub is_pending : Files → Call → List Call → Bool
is_pending files call later = may_lose files call.name call.action call.done later

-- old, with this byte up to this length where it is shorter
abbrev pub filled_up : ℕ → List ℕ → ℕ → List ℕ
filled_up byte old len = old ++ replicate (len - length old) byte

-- what an edit makes of a file's bytes, with this byte for each new one
abbrev pub flooded : ℕ → Edit → List ℕ → List ℕ
flooded byte (Write at bytes) old = replaced (filled_up byte old (at + length bytes)) at (replicate (length bytes) byte)
flooded byte (Resize len) old = take len (filled_up byte old len)

-- What a choice makes of an edit: 0 drops it, 1 keeps it, and another number is the byte that stands for each new one.
-- One that can't be done is dropped.
abbrev pub chosen : ℕ → Edit → Option (List ℕ) → Option (List ℕ)
chosen choice edit file =
    if choice == 0 || not (fits edit) then file
    else if choice == 1 then Some (edited edit (file_bytes file)) else Some (flooded choice edit (file_bytes file))

-- what a crash leaves after a call, from what it leaves before it
abbrev pub remains_by : ℕ → List ℕ → Action → Files → Files
remains_by choice name (Change edit) left other = if bytes_eq name other then chosen choice edit (left name) else left other
remains_by choice name (Replace to) left other = if choice == 0 then left other else moved left name to other
remains_by choice name Remove left other = if choice == 0 then left other else if bytes_eq name other then None else left other
remains_by choice name action left other = left other

-- the choice of a call as it was: kept where it was done, and dropped where it failed
abbrev pub as_it_was : Call → ℕ
as_it_was call = if call.done then 1 else 0

-- the files as a read gives them after a call
abbrev pub read_after : Files → Call → Files
read_after files call = remains_by (as_it_was call) call.name call.action files

-- the choice for a call of these files, before these ones: the next one given where a crash may lose it, and otherwise
-- as it was
abbrev pub choice_of : Files → List ℕ → Call → List Call → ℕ
choice_of files choices call later = if is_pending files call later then get_or choices 0 0 else as_it_was call

-- the choices that are left for the calls after it
abbrev pub choices_after : Files → List ℕ → Call → List Call → List ℕ
choices_after files choices call later = if is_pending files call later then drop 1 choices else choices

-- What a crash leaves after these calls, from the oldest on, of the files that a read gives before them and of what is
-- left of those before. The choices are those of the changes that it may lose, in their order; one that is missing is 0.
abbrev pub crashed : Files → Files → List ℕ → List Call → Files
crashed files left choices [] = left
crashed files left choices (call ∷ later) =
    crashed (read_after files call) (remains_by (choice_of files choices call later) call.name call.action left) (choices_after files choices call later) later

-- what a crash of this disk leaves
abbrev pub crash_of : MemDisk → List ℕ → Files
crash_of disk choices = crashed (files_of disk.start) (files_of disk.start) choices (calls_of disk)

-- the disk after a crash: what it left is all durable, and the calls are numbered on
pub record IsCrashed (old : MemDisk) (choices : List ℕ) (new : MemDisk) : Type 0 where
  pub fresh : IsFresh (crash_of old choices) new
  pub failing : failing_calls new ≡ failing_calls old
  pub next : next_call new ≡ next_call old

-- the disk as it was, but that no later call fails by its number
pub record IsHealed (old new : MemDisk) : Type 0 where
  pub start : files_of new.start ≡ files_of old.start
  pub calls : calls_of new ≡ calls_of old
  pub failing : failing_calls new ≡ []
  pub next : next_call new ≡ next_call old
  pub faults : failed_calls new ≡ failed_calls old

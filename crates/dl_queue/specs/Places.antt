-- Where a download stands in the lists of a queue, and its status (aria2 manual, `aria2.tellStatus`).
use Rattle.std.specs.Prelude.{ℕ, ◌==◌, ◌<◌, Bool, false, not, nat_lt, List, length, slice_index_or, Option, None, Some, if◌then◌else◌}
use Rattle.std.specs.List.{position_or_len}
use Rattle.dl_kinds.specs.declared.gid.Gid.{Gid}
use Rattle.dl_kinds.specs.declared.status.Status.{Status}
use Rattle.dl_kinds.specs.declared.status.Status.TheVariants.{Active, Waiting, Paused}
use Rattle.dl_queue.specs.declared.kinds.Ending.TheVariants.{Failed}
use Rattle.dl_queue.specs.Endings.{ended_status}
use Rattle.dl_queue.specs.declared.kinds.Queued.{Queued}
use Rattle.dl_queue.specs.declared.kinds.Stopped.{Stopped}
use Rattle.dl_queue.specs.Lists.{QueueLists}

-- the first place of a download in a list, and the list's length where it stands nowhere
abbrev pub is_gid : Gid → Gid → Bool
is_gid gid other = other.0 == gid.0

abbrev pub is_queued : Gid → Queued → Bool
is_queued gid download = download.gid.0 == gid.0

abbrev pub is_stopped : Gid → Stopped → Bool
is_stopped gid download = download.gid.0 == gid.0

abbrev pub is_ready : Queued → Bool
is_ready download = not download.paused

abbrev pub active_place : Gid → List Gid → ℕ
active_place gid active = position_or_len (is_gid gid) active

abbrev pub queued_place : Gid → List Queued → ℕ
queued_place gid waiting = position_or_len (is_queued gid) waiting

abbrev pub stopped_place : Gid → List Stopped → ℕ
stopped_place gid stopped = position_or_len (is_stopped gid) stopped

-- the download at a place, which is read only where one stands
abbrev pub queued_at : Gid → List Queued → ℕ → Queued
queued_at gid waiting place = slice_index_or waiting place record { gid = gid; paused = false }

abbrev pub stopped_at : Gid → List Stopped → ℕ → Stopped
stopped_at gid stopped place = slice_index_or stopped place record { gid = gid; ending = Failed }

abbrev pub queued_status : Queued → Status
queued_status download = if download.paused then Paused else Waiting

-- the status of a download, if it stands in one of the lists
abbrev pub status_of : QueueLists → Gid → Option Status
status_of queue gid =
    if nat_lt (active_place gid queue.active) (length queue.active) then Some Active
    else if nat_lt (queued_place gid queue.waiting) (length queue.waiting)
    then Some (queued_status (queued_at gid queue.waiting (queued_place gid queue.waiting)))
    else if nat_lt (stopped_place gid queue.stopped) (length queue.stopped)
    then Some (ended_status (stopped_at gid queue.stopped (stopped_place gid queue.stopped)).ending)
    else None

-- a download of this status stands in the list of those
abbrev pub StandsAmong : Status → QueueLists → Gid → Type 0
StandsAmong Active queue gid = active_place gid queue.active < length queue.active
StandsAmong Waiting queue gid = queued_place gid queue.waiting < length queue.waiting
StandsAmong Paused queue gid = queued_place gid queue.waiting < length queue.waiting
StandsAmong other queue gid = stopped_place gid queue.stopped < length queue.stopped

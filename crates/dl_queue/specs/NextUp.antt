-- Which waiting download becomes active first.
use Rattle.std.specs.Prelude.{◌≡◌, ◌≤◌, ◌<◌, ◌++◌, ◌∷◌, [], true, length, remove, Option, None, Some}
use Rattle.std.specs.List.{position_or_len}
use Rattle.dl_kinds.specs.declared.gid.Gid.{Gid}
use Rattle.dl_kinds.specs.declared.status.Status.TheVariants.{Active, Waiting}
use Rattle.dl_queue.specs.Lists.{QueueLists}
use Rattle.dl_queue.specs.Places.{is_ready, active_place, queued_place, status_of}
use Rattle.dl_queue.specs.Calls.{was_added}

-- the download that moves up first
pub record MovesUp (queue : QueueLists) (gid : Gid) : Type 0 where
  pub known : was_added queue.added gid ≡ true
  pub stands : status_of queue gid ≡ Some Waiting
  pub place : queued_place gid queue.waiting ≡ position_or_len is_ready queue.waiting
  pub within : position_or_len is_ready queue.waiting < length queue.waiting

abbrev pub IsNextUp : QueueLists → Option Gid → Type 0
IsNextUp queue None = length queue.waiting ≤ position_or_len is_ready queue.waiting
IsNextUp queue (Some gid) = MovesUp queue gid

-- the last of the active downloads
pub record StandsLast (queue : QueueLists) (gid : Gid) : Type 0 where
  pub known : was_added queue.added gid ≡ true
  pub stands : status_of queue gid ≡ Some Active
  pub last : remove queue.active (active_place gid queue.active) ++ gid ∷ [] ≡ queue.active

abbrev pub IsLastActive : QueueLists → Option Gid → Type 0
IsLastActive queue None = queue.active ≡ []
IsLastActive queue (Some gid) = StandsLast queue gid

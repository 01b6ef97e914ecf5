-- What contracts see of a queue.
use Rattle.std.specs.Prelude.{ℕ, List}
use Rattle.dl_kinds.specs.declared.gid.Gid.{Gid}
use Rattle.dl_queue.specs.declared.kinds.Queued.{Queued}
use Rattle.dl_queue.specs.declared.kinds.Stopped.{Stopped}
use Rattle.dl_queue.specs.declared.kinds.Added.{Added}

-- how many may be active, the three lists (of the stopped ones the oldest first), and all that were added in this run, in order
pub record QueueLists : Type 0 where
  pub limit : ℕ
  pub active : List Gid
  pub waiting : List Queued
  pub stopped : List Stopped
  pub added : List Added

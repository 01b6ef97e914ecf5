-- What a run leaves as it was, and where.
use Rattle.std.specs.Prelude.{◌≡◌, ℕ, List, [], Some, length, slice_get}
use Rattle.conn_worker.specs.Brought.{IsLaterLink}
use Rattle.conn_worker.specs.Hands.{link_at}
use Rattle.dl_disk.specs.declared.disk.Disk.{Ghosts as DiskSays}
use Rattle.link_source.specs.declared.Links.{Ghosts as LinkSays}
use Rattle.run_lifecycle.specs.Untouched.{OnlyReads}
use Rattle.run_lifecycle.specs.declared.ended.Ended.{Ended}

-- Where nothing happened the disk was read at most, and the links are as they were; where the words have no meaning the
-- disk wasn't called. The link at each place goes on from the one that was there.
pub record LeavesLinks {D L K : Type 0} (says : DiskSays D) (links : LinkSays L) (disk : D) (olds : List (L × K))
    (ended : Ended D) (news : List (L × K)) : Type 0 where
  pub reads : OnlyReads says disk ended
  pub all : ended.journal.events.items ≡ [] → news ≡ olds
  pub many : length news ≡ length olds
  pub places : (place : ℕ) (old new : L × K) → slice_get olds place ≡ Some old → slice_get news place ≡ Some new
      → IsLaterLink links.tells (link_at links old.0) (link_at links new.0)

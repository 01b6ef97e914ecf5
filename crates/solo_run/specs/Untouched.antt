-- What a run over one link leaves as it was.
use Rattle.std.specs.Prelude.{◌≡◌, List, [], drop, length}
use Rattle.dl_disk.specs.declared.disk.Disk.{Ghosts as DiskSays}
use Rattle.run_lifecycle.specs.Untouched.{OnlyReads}
use Rattle.run_lifecycle.specs.declared.ended.Ended.{Ended}

module _ {D P : Type 0} (says : DiskSays D) (disk : D) (links : List P) (ended : Ended D) (links' : List P) where
  -- Where nothing happened the disk was read at most, and where the words have no meaning it wasn't called. Only the
  -- first link is ever used, and that only where something happened.
  pub record LeavesUnused : Type 0 where
    pub reads : OnlyReads says disk ended
    pub all : ended.journal.events.items ≡ [] → links' ≡ links
    pub others : drop 1 links' ≡ drop 1 links
    pub many : length links' ≡ length links
